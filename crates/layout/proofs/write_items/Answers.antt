-- `layout::write_items` meets its contract: after i turns the first i items are written.
use mathlib.Core.Path.{◌≡◌, ap, sym, ◌∙◌}
use mathlib.Core.List.{map}
use native.Mathlib.Omega.{arith}
use native.Mathlib.Numerals.{add-one}
use lib.ListN.{length, get_or, length-map}
use Rattle.std.proofs.lemmas.List.{get_or-map}
use Rattle.layout.proofs.ItemLists.{write-none, write-on, write-all}
use Rattle.layout.proofs.write_items.Goals as goal

pub loop-i-init : goal.loop-i-init
loop-i-init g c = write-none g.row.W (map g.T.Item.spelt c.args.items.now) c.args.bytes.now

pub loop-i-preserved : goal.loop-i-preserved
loop-i-preserved g c =
    let a = c.args in
    let l = c.loop-i in
    let x = c.index-items-i in
    let spelt = g.T.Item.spelt in
    let items = map spelt a.items.now in
    let long : length items ≡ length a.items.now = length-map a.items.now spelt in
    let v : spelt x.result ≡ get_or items l.i 0 = ap spelt x.is ∙ sym (get_or-map spelt a.items.now l.i x.result 0 (omega arith)) in
    rw add-one (write-on g.row.W items a.bytes.now l.bytes c.put.new.bytes l.i (spelt x.result) l.invariant c.put.ensures v (omega arith) (rw long c.requires))

pub returns : goal.returns
returns g c =
    let a = c.args in
    let l = c.loop-i in
    let spelt = g.T.Item.spelt in
    write-all g.row.W (map spelt a.items.now) a.bytes.now l.bytes l.i (length a.items.now) l.invariant (omega arith) (length-map a.items.now spelt)
