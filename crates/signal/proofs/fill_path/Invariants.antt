-- `signal::fill_path` meets its contract. The loop's invariant: the buffers hold the path of sizes 1 to i.
use Rattle.path.specs.Model.{lists}
use Rattle.path.specs.Inner.{Held}
use Rattle.signal.specs.Signal.{path_by}
use Rattle.signal.specs.Inner.{losses_in}
use Rattle.signal.proofs.fill_path.Given as goal

abbrev pub invariant-loop-i : goal.invariant-loop-i
invariant-loop-i l = Held (path_by l.weights (losses_in l.losses) l.i) (lists l.initial.path_sizes l.initial.path_losses l.initial.path_weights) (lists l.path_sizes l.path_losses l.path_weights) l.entries l.i
