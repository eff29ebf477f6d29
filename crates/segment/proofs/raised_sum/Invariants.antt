-- `segment::raised_sum` meets its contract. The invariant: the sum is that of the raised samples so far, and these were read.
use Rattle.std.proofs.Common.{ℕ, ◌<◌, List, ℤ, pos, get_or}
use Rattle.segment.specs.Segment.{Sample16}
use Rattle.segment.specs.Inner.{max_raised, raised}
use Rattle.segment.proofs.Sums.{Along}
use Rattle.segment.proofs.raised_sum.Given as goal

-- The loop's invariant.
pub record Added (xs : List ℤ) (i sum : ℕ) : Type 0 where
  pub along : Along raised max_raised xs 0 i sum
  pub fit : (j : ℕ) → j < i → Sample16 (get_or xs j (pos 0))

abbrev pub invariant-loop-x : goal.invariant-loop-x
invariant-loop-x l = Added l.x-items l.x-index l.sum
