-- `layout::put_items` meets its contract: after i turns the first i items are written.
use mathlib.Core.Path.{refl}
use native.Mathlib.Omega.{arith}
use native.Mathlib.Numerals.{add-one}
use lib.ListN.{length}
use Rattle.layout.proofs.ItemLists.{write-none, write-on, write-all}
use Rattle.layout.proofs.put_items.Goals as goal

pub loop-i-init : goal.loop-i-init
loop-i-init c = write-none c.args.width c.args.items.now c.args.bytes.now

pub loop-i-preserved : goal.loop-i-preserved
loop-i-preserved c =
    let a = c.args in
    let l = c.loop-i in
    rw add-one (write-on a.width a.items.now a.bytes.now l.bytes c.put.new.bytes l.i _ l.invariant c.put.ensures refl (omega arith) c.requires)

pub returns : goal.returns
returns c =
    let a = c.args in
    let l = c.loop-i in
    write-all a.width a.items.now a.bytes.now l.bytes l.i (length a.items.now) l.invariant (omega arith) refl
