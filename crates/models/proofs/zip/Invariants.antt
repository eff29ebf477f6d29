-- The loop's invariant: the first i entries are written.
use mathlib.Core.Path.{◌≡◌}
use mathlib.Core.List.{map}
use lib.ListN.{take}
use Rattle.path.specs.Buffer.{overwritten}
use Rattle.models.specs.Inner.{size_of, loss_of, weight_of}
use Rattle.models.proofs.zip.Given as goal

abbrev pub invariant-loop-i : goal.invariant-loop-i
invariant-loop-i l =
    (map size_of l.entries ≡ overwritten (take l.i l.sizes) (map size_of l.fn.entries))
    × (map loss_of l.entries ≡ overwritten (take l.i l.losses) (map loss_of l.fn.entries))
    × (map weight_of l.entries ≡ overwritten (take l.i l.weights) (map weight_of l.fn.entries))
