use mathlib.Core.Path.{◌≡◌, refl, ap, ◌∙◌}
use mathlib.Core.List.{List, map}
use Prim.Native.Nat.{ℕ}
use native.Mathlib.Omega.{arith}
use lib.ListN.{length, get_or, take}
use Rattle.path.specs.Model.{lists}
use Rattle.path.specs.Buffer.{overwritten}
use Rattle.path.specs.declared.storage.Entry.{Entry}
use Rattle.models.specs.Inner.{entry_of, size_of, loss_of, weight_of}
use Rattle.models.proofs.Copies.{stored-more, stored-all}
use Rattle.models.proofs.zip.Goals as goal

pub loop-i-init : goal.loop-i-init
loop-i-init c = (refl, refl, refl)

pub loop-i-preserved : goal.loop-i-preserved
loop-i-preserved c =
    let a = c.args in
    let i = c.loop-i.i in
    let e = entry_of (get_or a.sizes.now i 0) (get_or a.losses.now i 0) (get_or a.weights.now i 0) in
    let inv = c.loop-i.invariant in
    let same = c.requires.1 in (
      stored-more size_of a.entries.now refl a.sizes.now c.loop-i.entries i e inv.0 refl (omega arith) (omega (arith, c.requires.0)),
      stored-more loss_of a.entries.now refl a.losses.now c.loop-i.entries i e inv.1 refl (omega (arith, same.losses)) (omega (arith, c.requires.0)),
      stored-more weight_of a.entries.now refl a.weights.now c.loop-i.entries i e inv.2 refl (omega (arith, same.weights)) (omega (arith, c.requires.0)),
    )

pub returns : goal.returns
returns c =
    let a = c.args in
    let inv = c.loop-i.invariant in
    let same = c.requires.1 in
    let n : c.loop-i.i ≡ length a.sizes.now = omega (arith, c.loop-i-test.false) in
    let all : (f : Entry → ℕ) (xs : List ℕ) → length xs ≡ length a.sizes.now → overwritten (take c.loop-i.i xs) (map f a.entries.now) ≡ overwritten (take (length xs) xs) (map f a.entries.now)
    = λ f xs e. let m : c.loop-i.i ≡ length xs = omega (arith, n, e) in ap (λ (k : ℕ). overwritten (take k xs) (map f a.entries.now)) m in
    let s = inv.0 ∙ all size_of a.sizes.now refl ∙ stored-all size_of a.entries.now refl a.sizes.now in
    let l = inv.1 ∙ all loss_of a.losses.now same.losses ∙ stored-all loss_of a.entries.now refl a.losses.now in
    let w = inv.2 ∙ all weight_of a.weights.now same.weights ∙ stored-all weight_of a.entries.now refl a.weights.now in
    λ i. lists (s i) (l i) (w i)
