-- `segment::tail_losses` meets its contract. The invariant: the sums are those of the samples from i on as far as `to`, these were read,
-- and the cells from i on have their losses.
use Rattle.std.proofs.Common.{◌≡◌, ℕ, ◌+◌, ◌*◌, ◌≤◌, ◌<◌, List, ℤ, pos, get_or}
use Rattle.std.proofs.Math.Seq.{slice}
use Rattle.segment.specs.Segment.{Sample16, segment_loss}
use Rattle.segment.specs.Inner.{max_raised, max_square, raised_sum, raised_squares}
use Rattle.segment.proofs.tail_losses.Given as goal

-- The sums over the samples from i on as far as `to`, which were read.
pub record Sums (samples : List ℤ) (to i sum squares : ℕ) : Type 0 where
  pub low : i ≤ to
  pub fit : (j : ℕ) → i ≤ j → j < to → Sample16 (get_or samples j (pos 0))
  pub sum_is : sum ≡ raised_sum (slice i to samples)
  pub squares_are : squares ≡ raised_squares (slice i to samples)
  pub sum_low : sum + max_raised * i ≤ max_raised * to
  pub squares-low : squares + max_square * i ≤ max_square * to

-- The loop's invariant.
pub record Tails (samples : List ℤ) (to : ℕ) (losses : List ℕ) (i sum squares : ℕ) : Type 0 where
  pub sums : Sums samples to i sum squares
  pub are : (j : ℕ) → i ≤ j → j < to → get_or losses j 0 ≡ segment_loss (slice j to samples)

abbrev pub invariant-loop-i : goal.invariant-loop-i
invariant-loop-i l = Tails l.samples l.to l.losses l.i l.sum l.squares
