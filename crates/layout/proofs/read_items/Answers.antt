-- `layout::read_items` meets its contract: after i turns the first i items are read.
use mathlib.Core.Path.{refl}
use native.Mathlib.Omega.{arith}
use native.Mathlib.Numerals.{add-one}
use Rattle.layout.specs.Items.{items_to}
use Rattle.layout.proofs.ItemLists.{read-more, read-all}
use Rattle.layout.proofs.read_items.Goals as goal

pub loop-i-init : goal.loop-i-init
unfolding items_to
loop-i-init g c = refl

pub loop-i-preserved : goal.loop-i-preserved
loop-i-preserved g c =
    let l = c.loop-i in
    rw add-one (read-more g.T.Item.stands_for g.row.W c.args.bytes.now l.items l.i c.get.result (omega arith) c.get.ensures l.invariant)

pub returns : goal.returns
returns g c =
    let l = c.loop-i in
    read-all g.T.Item.stands_for g.row.W c.args.bytes.now l.items l.i _ (omega arith) (omega arith) l.invariant
