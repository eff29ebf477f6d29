-- `layout::get_items` meets its contract: after i turns the first i items are read.
use mathlib.Core.Path.{◌≡◌}
use mathlib.Core.List.{map}
use Prim.Native.Nat.{ℕ}
use lib.ListN.{take}
use Rattle.layout.specs.Items.{items_to}
use Rattle.layout.proofs.get_items.Given as goal

abbrev pub invariant-loop-i : goal.invariant-loop-i
invariant-loop-i l = take l.i l.items ≡ map (λ (v : ℕ). v) (items_to l.width l.bytes l.i)
