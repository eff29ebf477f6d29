-- `segment::reciprocals` meets its contract. The invariant: the cells below n have their reciprocals.
use Rattle.std.proofs.Common.{ℕ, ◌<◌, get_or}
use Rattle.segment.specs.Inner.{Reciprocal}
use Rattle.segment.proofs.reciprocals.Given as goal

abbrev pub invariant-loop-n : goal.invariant-loop-n
invariant-loop-n l = (i : ℕ) → 0 < i → i < l.n → Reciprocal i (get_or l.recips i 0)
