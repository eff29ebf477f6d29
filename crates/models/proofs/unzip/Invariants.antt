-- The loop's invariant: the first i entries are copied.
use mathlib.Core.Path.{◌≡◌}
use mathlib.Core.List.{map}
use lib.ListN.{take}
use Rattle.path.specs.Buffer.{overwritten}
use Rattle.models.specs.Inner.{size_of, loss_of, weight_of}
use Rattle.models.proofs.unzip.Given as goal

abbrev pub invariant-loop-i : goal.invariant-loop-i
invariant-loop-i l =
    (l.sizes ≡ overwritten (take l.i (map size_of l.entries)) l.fn.sizes)
    × (l.losses ≡ overwritten (take l.i (map loss_of l.entries)) l.fn.losses)
    × (l.weights ≡ overwritten (take l.i (map weight_of l.entries)) l.fn.weights)
