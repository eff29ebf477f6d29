-- `stream::Sums::by_eights` meets its contract. The invariant: the best sum is the least of those of the starts from i on.
use Rattle.stream.specs.Inner.{BestFrom}
use Rattle.stream.proofs.sums.Sums.by_eights.Given as goal

abbrev pub invariant-loop-i : goal.invariant-loop-i
invariant-loop-i l = BestFrom l.self.table.bytes.now l.self.owns.now l.self.k l.self.to l.i l.best

abbrev pub decreases-loop-i : goal.decreases-loop-i
decreases-loop-i l = l.i
