-- `least::keep_row` meets its contract. The invariant: the cells from i on are copied, the losses from i on are not below the floor, and
-- each of the floors from i on is not above the losses from there on.
use Rattle.std.proofs.Common.{◌≡◌, ℕ, ◌≤◌, List, ℤ, length, get_or}
use Rattle.least.specs.Segmentation.{least}
use Rattle.least.proofs.keep_row.Given as goal

-- The cells from i on are kept.
pub record Made (xs : List ℤ) (d m : ℕ) (row old floors : List ℕ) (i floor : ℕ) : Type 0 where
  pub same : (t : ℕ) → i ≤ t → t ≤ length xs → get_or old t 0 ≡ get_or row t 0
  pub floor-below : (t : ℕ) → i ≤ t → t ≤ length xs → floor ≤ least xs d m t
  pub made : (s t : ℕ) → i ≤ s → s ≤ t → t ≤ length xs → get_or floors s 0 ≤ least xs d m t

abbrev pub invariant-loop-i : goal.invariant-loop-i
invariant-loop-i l = Made l.signal.gains.samples.now l.signal.min_segment_len l.m l.row l.old l.floors l.i l.floor
