-- `coding::store` meets its contract: the value is put, and zeros after it.
use mathlib.Core.Path.{refl, ap, ◌∙◌}
use Prim.Native.Nat.{ℕ, ◌+◌, ◌/◌}
use native.Mathlib.Nat.{mul-suc, div-le_self}
use native.Mathlib.Omega.{arith}
use lib.ListN.{length, replicate, length-take, length-drop}
use Rattle.layout.proofs.ItemLists.{length-items}
use Rattle.coding.proofs.Strings.{bytes-held}
use Rattle.coding.proofs.Stores.{store-inside, store-end, stored}
use Rattle.coding.proofs.store.Goals as goal

pub overflow_mul-width : goal.overflow_mul-width
overflow_mul-width c =
    let a = c.args in
    let b = a.bytes.now in
    omega (arith, c.requires.inside, store-inside c.args.width b a.kept a.n 0 c.requires (bytes-held b c.slice_known-1.given) a.kept (omega (arith, c.requires.inside)))

pub put-requires : goal.put-requires
put-requires c =
    let a = c.args in
    let b = a.bytes.now in
    omega (arith, mul-suc c.args.width a.kept, store-inside c.args.width b a.kept a.n 0 c.requires (bytes-held b c.slice_known-1.given) (a.kept + 1) (omega (arith, c.requires.inside)))

pub overflow_add-after : goal.overflow_add-after
overflow_add-after c =
    let a = c.args in
    let b = a.bytes.now in
    omega (arith, c.requires.inside, length-items c.args.width b (length b / c.args.width), div-le_self (length b) c.args.width)

pub overflow_mul-after : goal.overflow_mul-after
overflow_mul-after c =
    let a = c.args in
    let b = a.bytes.now in
    omega (arith, store-inside c.args.width b a.kept a.n 0 c.requires (bytes-held b c.slice_known-1.given) (a.kept + 1) (omega (arith, c.requires.inside)))

pub overflow_mul-width-2 : goal.overflow_mul-width-2
overflow_mul-width-2 c =
    let a = c.args in
    let b = a.bytes.now in
    omega (arith, store-inside c.args.width b a.kept a.n 0 c.requires (bytes-held b c.slice_known-1.given) a.n c.requires.room)

pub slice_bounds-fill-end : goal.slice_bounds-fill-end
slice_bounds-fill-end c =
    let a = c.args in
    let b = a.bytes.now in
    let inside = store-inside c.args.width b a.kept a.n 0 c.requires (bytes-held b c.slice_known-1.given) in
    omega (arith, c.max.ensures, c.put.auto.bytes, inside (a.kept + 1) (omega (arith, c.requires.inside)), inside a.n c.requires.room)

pub returns : goal.returns
returns c =
    let a = c.args in
    let b = a.bytes.now in
    stored c.args.width b a.kept a.n (a.value) c.requires (bytes-held b c.slice_known-1.given) c.put.new.bytes c.fill.new.self _ _ _
    c.put.ensures refl c.max.ensures (c.fill.ensures.after (λ y e. e) ∙ ap (λ (m : ℕ). replicate m 0) (simp (length-take, length-drop) (omega (arith, c.put.auto.bytes, store-end c.args.width b a.kept a.n 0 c.requires (bytes-held b c.slice_known-1.given) c.max.result c.max.ensures)))) refl
