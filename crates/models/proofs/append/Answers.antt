-- `models::append` meets its contract: refused, or accepted, with the entry stored where the model is not passed over.
use mathlib.Core.Path.{refl, ap, sym}
use native.Mathlib.Omega.{arith}
use lib.ListN.{length-map}
use Rattle.std.proofs.lemmas.Result.{err_from_is_err_and}
use Rattle.path.specs.declared.Kept.{Kept}
use Rattle.path.specs.Model.{Lists}
use Rattle.path.specs.Inner.{model_of}
use Rattle.path.proofs.Numbers.{number_some}
use Rattle.path.proofs.Cases.{refused-by, passes_over, accepted, stored-after, stored-places, not-stored}
use Rattle.models.specs.Entries.{lists_in}
use Rattle.models.specs.Inner.{size_of}
use Rattle.models.proofs.append.Goals as goal
use Rattle.models.proofs.append.Goals.{in-Some, in_default}

pub returns-in_err-judged : goal.returns-in_err-judged
returns-in_err-judged c =
    let a = c.args in
    let p = err_from_is_err_and c.from_residual.result c.from_residual.ensures.1 in
    rw (p.1, p.2) (refused-by (lists_in a.entries.now) a.n (model_of a.new) _ c.in_err-judged.ensures.refusal (number_some c.in_err-judged.field-0.0))

pub store-requires : goal.store-requires
store-requires c =
    let a = c.args in
    let places = stored-places (lists_in a.entries.now) a.n (model_of a.new) c.in_ok-judged.judged (sym c.in_ok-judged.ensures.refusal) c.in_ok-judged.ensures.judged c.in-Some.kept c.in-Some.is in
    (omega (arith, places.0.in_sizes, length-map a.entries.now size_of), omega (arith, places.1.in_sizes, length-map a.entries.now size_of))

pub returns : goal.returns
returns c =
    let a = c.args in
    let t = lists_in a.entries.now in
    let j = c.in_ok-judged.judged in
    let passes = sym c.in_ok-judged.ensures.refusal in
    elim c.match-judged.branch [
      | in-Some w ↦
          let s = stored-after t a.n (model_of a.new) j passes c.in_ok-judged.ensures.judged w.in-Some.kept w.in-Some.is in
          let e = w.store.ensures in
          rw (w.entries-is, ap (λ (x : Kept). x.entries) s.left, ap (λ (x : Kept). x.tests.count) s.left)
          (accepted t a.n (model_of a.new) s.may s.tried w.in-Some.kept s.stays s.fits
          (lists_in w.store.new.entries) _ refl
          (ap (λ (x : Lists). x.sizes) e) (ap (λ (x : Lists). x.losses) e) (ap (λ (x : Lists). x.weights) e))
      | in_default w ↦
          let s = not-stored t a.n (model_of a.new) j passes c.in_ok-judged.ensures.judged w.in_default.not-Some in
          rw (w.entries-is, ap (λ (x : Kept). x.entries) s.left)
          (passes_over t a.n (model_of a.new) s.may s.over 0 j.path.tests.count refl (ap (λ (x : Kept). x.tests.count) s.left))
    ]
