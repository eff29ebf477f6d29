-- `segment::prefix_sums` meets its contract. The loop's invariant: sum is the sum over the first i samples, which were read, and the
-- cells up to i have the sums over as many samples as their number.
use Rattle.std.proofs.Common.{ℕ, ◌+◌, ◌<◌, List, ℤ, pos, get_or}
use Rattle.segment.specs.Segment.{Sample16}
use Rattle.segment.specs.Inner.{max_raised, raised}
use Rattle.segment.proofs.Sums.{Along, Cells}
use Rattle.segment.proofs.prefix_sums.Given as goal

-- The loop's invariant.
pub record Filled (samples : List ℤ) (sums : List ℕ) (i sum : ℕ) : Type 0 where
  pub along : Along raised max_raised samples 0 i sum
  pub fit : (j : ℕ) → j < i → Sample16 (get_or samples j (pos 0))
  pub sums_are : Cells raised (i + 1) samples sums

abbrev pub invariant-loop-i : goal.invariant-loop-i
invariant-loop-i l = Filled l.samples l.sums l.i l.sum
