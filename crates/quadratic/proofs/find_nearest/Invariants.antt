-- `quadratic::find_nearest` meets its contract. The loop's invariant: `best` is the place of the nearest of the first i models.
use mathlib.Core.List.{List}
use Prim.Native.Nat.{ℕ, ◌-◌, ◌≤◌, ◌<◌}
use Rattle.path.specs.Model.{lists, model_at}
use Rattle.quadratic.specs.Inner.{NearestAt}
use Rattle.quadratic.proofs.find_nearest.Given as goal

abbrev pub invariant-loop-i : goal.invariant-loop-i
invariant-loop-i l = (l.i ≤ l.at) × (l.best < l.i) × ((s : List ℕ) → NearestAt (lists s l.losses l.weights) (model_at (lists s l.losses l.weights) l.at) l.i l.best)

abbrev pub decreases-loop-i : goal.decreases-loop-i
decreases-loop-i l = l.at - l.i
