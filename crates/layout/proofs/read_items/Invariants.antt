-- `layout::read_items` meets its contract: after i turns the first i items are read.
use mathlib.Core.Path.{◌≡◌}
use mathlib.Core.List.{map}
use lib.ListN.{take}
use Rattle.layout.specs.Items.{items_to}
use Rattle.layout.proofs.read_items.Given as goal

abbrev pub invariant-loop-i : goal.invariant-loop-i
invariant-loop-i g l = take l.i l.items ≡ map g.T.Item.stands_for (items_to g.row.W l.bytes l.i)
