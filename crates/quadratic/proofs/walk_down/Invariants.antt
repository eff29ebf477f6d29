-- `quadratic::walk_down` meets its contract. The loop's invariant: the entries found lie at the end of the places, the one found last
-- stood at place `at`, and the models before it are as they were.
use lib.ListN.{length}
use Rattle.path.specs.Model.{lists}
use Rattle.quadratic.proofs.Descents.{Descended}
use Rattle.quadratic.proofs.walk_down.Given as goal

abbrev pub invariant-loop-at : goal.invariant-loop-at
invariant-loop-at l = Descended (lists l.initial.sizes l.initial.losses l.initial.weights) (lists l.sizes l.losses l.weights) (length l.initial.sizes) l.at l.first

abbrev pub decreases-loop-at : goal.decreases-loop-at
decreases-loop-at l = l.at
