-- `least::Search::right_limit` meets its contract. The invariant: the limit lies within the bounds. The measure is what is left up to the
-- end.
use Rattle.std.proofs.Common.{◌-◌}
use Rattle.least.specs.Inner.{Limited}
use Rattle.least.proofs.Search.right_limit.Given as goal

abbrev pub invariant-loop-right : goal.invariant-loop-right
invariant-loop-right l = Limited l.self.signal.min_segment_len l.self.m l.self.to l.right

abbrev pub decreases-loop-right : goal.decreases-loop-right
decreases-loop-right l = l.self.to - l.right
