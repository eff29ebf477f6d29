-- `path::append_to` meets its contract: refused, or accepted, with the three lists stored where the model is not passed over.
use mathlib.Core.Path.{refl, ap, sym, ◌∙◌}
use native.Mathlib.Omega.{arith}
use Rattle.std.proofs.lemmas.Result.{err_from_is_err_and}
use Rattle.path.specs.declared.Kept.{Kept}
use Rattle.path.specs.Model.{lists}
use Rattle.path.specs.Inner.{model_of}
use Rattle.path.proofs.Numbers.{number_some}
use Rattle.path.proofs.Cases.{refused-by, passes_over, accepted, stored-after, stored-places, not-stored}
use Rattle.path.proofs.append_to.Goals as goal
use Rattle.path.proofs.append_to.Goals.{in-Some, in_default}

pub returns-in_err-judged : goal.returns-in_err-judged
returns-in_err-judged c =
    let a = c.args in
    let p = err_from_is_err_and c.from_residual.result c.from_residual.ensures.1 in
    rw (p.1, p.2) (refused-by (lists a.sizes.now a.losses.now a.weights.now) a.entries (model_of a.new) _ c.in_err-judged.ensures.refusal (number_some c.in_err-judged.field-0.0))

pub store-requires : goal.store-requires
store-requires c =
    let a = c.args in
    let t = lists a.sizes.now a.losses.now a.weights.now in
    let places = stored-places t a.entries (model_of a.new) c.in_ok-judged.judged (sym c.in_ok-judged.ensures.refusal) c.in_ok-judged.ensures.judged c.in-Some.kept c.in-Some.is in
    (omega (arith, places.0.in_sizes), places.1.in_sizes)

pub store-requires-in-Some : goal.store-requires-in-Some
store-requires-in-Some c =
    let a = c.args in
    let t = lists a.sizes.now a.losses.now a.weights.now in
    let places = stored-places t a.entries (model_of a.new) c.in_ok-judged.judged (sym c.in_ok-judged.ensures.refusal) c.in_ok-judged.ensures.judged c.in-Some.kept c.in-Some.is in
    (omega (arith, places.0.in_losses), places.1.in_losses)

pub store-requires-in-Some-2 : goal.store-requires-in-Some-2
store-requires-in-Some-2 c =
    let a = c.args in
    let t = lists a.sizes.now a.losses.now a.weights.now in
    let places = stored-places t a.entries (model_of a.new) c.in_ok-judged.judged (sym c.in_ok-judged.ensures.refusal) c.in_ok-judged.ensures.judged c.in-Some.kept c.in-Some.is in
    (omega (arith, places.0.in_weights), places.1.in_weights)

pub returns : goal.returns
returns c =
    let a = c.args in
    let t = lists a.sizes.now a.losses.now a.weights.now in
    let j = c.in_ok-judged.judged in
    let passes = sym c.in_ok-judged.ensures.refusal in
    elim c.match-judged.branch [
      | in-Some w ↦
          let s = stored-after t a.entries (model_of a.new) j passes c.in_ok-judged.ensures.judged w.in-Some.kept w.in-Some.is in
          rw (ap (λ (x : Kept). x.entries) s.left, ap (λ (x : Kept). x.tests.count) s.left)
          (accepted t a.entries (model_of a.new) s.may s.tried w.in-Some.kept s.stays s.fits
          (lists c.match-judged.sizes c.match-judged.losses c.match-judged.weights) _ refl
          (w.sizes-is ∙ w.store.ensures) (w.losses-is ∙ w.store-in-Some.ensures) (w.weights-is ∙ w.store-in-Some-2.ensures))
      | in_default w ↦
          let s = not-stored t a.entries (model_of a.new) j passes c.in_ok-judged.ensures.judged w.in_default.not-Some in
          rw (w.sizes-is, w.losses-is, w.weights-is, ap (λ (x : Kept). x.entries) s.left)
          (passes_over t a.entries (model_of a.new) s.may s.over 0 j.path.tests.count refl (ap (λ (x : Kept). x.tests.count) s.left))
    ]
