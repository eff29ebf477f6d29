-- `layout::item_at` meets its contract: the item at place i is the one from byte W i on.
use mathlib.Core.Path.{ap, sym, ◌∙◌}
use Prim.Native.Nat.{◌/◌}
use native.Mathlib.Omega.{arith}
use lib.ListN.{length}
use Rattle.layout.proofs.ItemLists.{length-items, item-at, item_inside}
use Rattle.layout.proofs.item_at.Goals as goal

pub overflow_mul-i : goal.overflow_mul-i
overflow_mul-i g c = omega (arith, item_inside g.row.W c.args.bytes.now c.args.i c.requires)

pub get-requires : goal.get-requires
get-requires g c = item_inside g.row.W c.args.bytes.now c.args.i c.requires

pub returns : goal.returns
returns g c =
    let a = c.args in
    let b = a.bytes.now in
    let n = length b / g.row.W in
    c.get.ensures ∙ ap g.T.Item.stands_for (sym (item-at g.row.W b n a.i (omega (arith, c.requires, length-items g.row.W b n))))
