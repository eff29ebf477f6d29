-- `least::all_rows` meets its contract. The invariant: the row is of m + 1 segments, the losses 0 to m are the least over the whole
-- signal, and the table has its rows before m.
use Rattle.std.proofs.Common.{◌≡◌, ℕ, ◌+◌, ◌<◌, List, ℤ, length, get_or}
use Rattle.least.specs.Segmentation.{least}
use Rattle.least.specs.Inner.{RowIs, StartsAre}
use Rattle.least.proofs.all_rows.Given as goal

-- The rows of 1 to m + 1 segments are done.
pub record Done (xs : List ℤ) (d m : ℕ) (row losses scratch : List ℕ) : Type 0 where
  pub row_is : RowIs xs d m row
  pub losses_are : (t : ℕ) → t < m + 1 → get_or losses t 0 ≡ least xs d t (length xs)
  pub starts_are : (t : ℕ) → t < m → StartsAre xs d t scratch

abbrev pub invariant-loop-m : goal.invariant-loop-m
invariant-loop-m l = Done l.signal.gains.samples.now l.signal.min_segment_len l.m l.row l.losses l.scratch
