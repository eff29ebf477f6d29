-- `layout::write_items` meets its contract: after i turns the first i items are written.
use mathlib.Core.Path.{◌≡◌}
use mathlib.Core.List.{map}
use Rattle.layout.proofs.ItemLists.{written}
use Rattle.layout.proofs.write_items.Given as goal

abbrev pub invariant-loop-i : goal.invariant-loop-i
invariant-loop-i g l = l.bytes ≡ written g.row.W (map g.T.Item.spelt l.items) l.i l.initial.bytes
