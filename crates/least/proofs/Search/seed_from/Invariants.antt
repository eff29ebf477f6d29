-- `least::Search::seed_from` meets its contract. The invariant: of the starts from i on none is better than s, nor is any between s and
-- low. The measure is i.
use Rattle.std.proofs.Common.{◌+◌, get_or}
use Rattle.least.proofs.Searching.{Right}
use Rattle.least.proofs.Search.seed_from.Given as goal

abbrev pub invariant-loop-low : goal.invariant-loop-low
invariant-loop-low l = Right l.self.signal.gains.samples.now l.self.signal.min_segment_len l.self.m l.self.to (get_or l.self.old.now l.s 0 + l.own) l.s l.low l.i

abbrev pub decreases-loop-low : goal.decreases-loop-low
decreases-loop-low l = l.i
