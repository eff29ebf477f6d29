-- `least::first_row` meets its contract: a turn makes one cell.
use Rattle.std.proofs.Common.{ℕ, ◌+◌, ◌<◌, ◌≡◌, List, ℤ, length, get_or, set, arith}
use Rattle.std.proofs.Math.Seq.{slice}
use Rattle.segment.specs.Segment.{segment_loss}
use Rattle.segment.specs.Inner.{raised_squares}
use Rattle.segment.proofs.Cells.{cell-more}
use Rattle.least.specs.Segmentation.{least}
use Rattle.least.specs.Inner.{GainOf}
use Rattle.least.proofs.first_row.Goals as goal

-- With the gain of the segment of all j samples in it, cell j is done.
more : (xs : List ℤ) (row : List ℕ) (j v : ℕ) → ((t : ℕ) → t < j → 0 < t → (d : ℕ) → GainOf xs d 0 t (get_or row t 0)) → j < length row → v + segment_loss (slice 0 j xs) ≡ raised_squares (slice 0 j xs)
    → (t : ℕ) → t < j + 1 → 0 < t → (d : ℕ) → GainOf xs d 0 t (get_or (set row j v) t 0)
unfolding least
more xs row j v done h e = cell-more (λ (t v : ℕ). 0 < t → (d : ℕ) → GainOf xs d 0 t v) j v row done h (λ u d. e)

pub loop-j-preserved : goal.loop-j-preserved
loop-j-preserved c = more _ _ _ _ c.loop-j.invariant (omega arith) c.gain.ensures

pub returns-2 : goal.returns-2
returns-2 c = λ d one. record { is = λ t l u. more _ _ _ _ c.loop-j.invariant (omega arith) c.gain.ensures t (omega arith) (omega arith) d }
