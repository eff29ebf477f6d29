-- `least::next_row` meets its contract. The invariant: the cells of the row below `to` are of m + 2 segments, row m of the table has the
-- starts before `to`, s is a start before that end, and so is the limit. A search that ends there finds what it asks for in both rows.
use Rattle.std.proofs.Common.{◌≡◌, ℕ, suc, ◌+◌, ◌*◌, ◌≤◌, ◌<◌, List, ℤ, get_or}
use Rattle.layout.specs.Item.{item}
use Rattle.least.specs.Segmentation.{last_start, least}
use Rattle.least.specs.Inner.{start_place, GainOf, Limited}
use Rattle.least.proofs.next_row.Given as goal

-- The cells and the starts before `to` are of the new row.
pub record Rows (xs : List ℤ) (d m to s right : ℕ) (row before scratch : List ℕ) : Type 0 where
  pub low : suc (suc m) * d ≤ to
  pub start-low : suc m * d ≤ s
  pub start-high : s + d ≤ to
  pub limited : Limited d m to right
  pub done : (t : ℕ) → t < to → suc (suc m) * d ≤ t → GainOf xs d (suc m) t (get_or row t 0)
  pub starts : (t : ℕ) → suc (suc m) * d ≤ t → t < to → item 2 scratch (start_place m t) ≡ last_start xs (least xs d m) d (suc m) t
  pub kept : (i : ℕ) → i < start_place m 1 → get_or scratch i 0 ≡ get_or before i 0

abbrev pub invariant-loop-to : goal.invariant-loop-to
invariant-loop-to l = Rows l.signal.gains.samples.now l.signal.min_segment_len l.m l.to l.s l.right l.row l.initial.scratch l.scratch
