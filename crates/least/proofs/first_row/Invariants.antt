-- `least::first_row` meets its contract. The invariant: the cells from 1 on below j are the gains of one segment.
use Rattle.std.proofs.Common.{ℕ, ◌<◌, get_or}
use Rattle.least.specs.Inner.{GainOf}
use Rattle.least.proofs.first_row.Given as goal

abbrev pub invariant-loop-j : goal.invariant-loop-j
invariant-loop-j l = (t : ℕ) → t < l.j → 0 < t → (d : ℕ) → GainOf l.gains.samples.now d 0 t (get_or l.row t 0)
