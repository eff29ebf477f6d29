use mathlib.Core.Path.{◌≡◌, refl, ap, ◌∙◌}
use mathlib.Core.List.{List, map}
use Prim.Native.Nat.{ℕ}
use native.Mathlib.Omega.{arith}
use lib.ListN.{length, get_or, set, take}
use Rattle.path.specs.Model.{lists}
use Rattle.path.specs.Buffer.{overwritten}
use Rattle.path.specs.declared.storage.Entry.{Entry}
use Rattle.models.specs.Inner.{no_entry, size_of, loss_of, weight_of}
use Rattle.models.proofs.Copies.{copied-more, copied-all}
use Rattle.models.proofs.unzip.Goals as goal

pub loop-i-init : goal.loop-i-init
loop-i-init c = (refl, refl, refl)

pub loop-i-preserved : goal.loop-i-preserved
loop-i-preserved c =
    let a = c.args in
    let es = a.entries.now in
    let i = c.loop-i.i in
    let e = get_or es i no_entry in
    let inv = c.loop-i.invariant in
    let need = c.requires in (
      ap (λ (zs : List ℕ). set zs i (size_of e)) inv.0 ∙ copied-more size_of es refl a.sizes.now need.sizes i (omega arith),
      ap (λ (zs : List ℕ). set zs i (loss_of e)) inv.1 ∙ copied-more loss_of es refl a.losses.now need.losses i (omega arith),
      ap (λ (zs : List ℕ). set zs i (weight_of e)) inv.2 ∙ copied-more weight_of es refl a.weights.now need.weights i (omega arith),
    )

pub returns : goal.returns
returns c =
    let a = c.args in
    let es = a.entries.now in
    let inv = c.loop-i.invariant in
    let need = c.requires in
    let n : c.loop-i.i ≡ length es = omega (arith, c.loop-i-test.false) in
    let all : (f : Entry → ℕ) (zs : List ℕ) → overwritten (take c.loop-i.i (map f es)) zs ≡ overwritten (take (length es) (map f es)) zs = λ f zs. ap (λ (k : ℕ). overwritten (take k (map f es)) zs) n in
    let s = inv.0 ∙ all size_of a.sizes.now ∙ copied-all size_of es refl a.sizes.now need.sizes in
    let l = inv.1 ∙ all loss_of a.losses.now ∙ copied-all loss_of es refl a.losses.now need.losses in
    let w = inv.2 ∙ all weight_of a.weights.now ∙ copied-all weight_of es refl a.weights.now need.weights in
    λ i. lists (s i) (l i) (w i)
