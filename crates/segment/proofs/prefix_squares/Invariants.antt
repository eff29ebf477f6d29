-- `segment::prefix_squares` meets its contract. The loop's invariant: sum is the sum of the first i squares, and the cells up to i have the
-- sums over as many samples as their number.
use Rattle.std.proofs.Common.{ℕ, ◌+◌, List, ℤ}
use Rattle.segment.specs.Inner.{max_square, raised_square}
use Rattle.segment.proofs.Sums.{Along, Cells}
use Rattle.segment.proofs.prefix_squares.Given as goal

-- The loop's invariant.
pub record Filled (samples : List ℤ) (squares : List ℕ) (i sum : ℕ) : Type 0 where
  pub along : Along raised_square max_square samples 0 i sum
  pub sums_are : Cells raised_square (i + 1) samples squares

abbrev pub invariant-loop-i : goal.invariant-loop-i
invariant-loop-i l = Filled l.samples l.squares l.i l.sum
