-- `layout::put_items` meets its contract: after i turns the first i items are written.
use mathlib.Core.Path.{◌≡◌}
use Rattle.layout.proofs.ItemLists.{written}
use Rattle.layout.proofs.put_items.Given as goal

abbrev pub invariant-loop-i : goal.invariant-loop-i
invariant-loop-i l = l.bytes ≡ written l.width l.items l.i l.initial.bytes
