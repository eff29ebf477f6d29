-- `byte_paths::append_whole` meets its contract: refused, or accepted, with the three items stored where the model is not passed over.
use mathlib.Core.Path.{refl, ap, sym, ◌∙◌}
use Prim.Native.Nat.{◌+◌}
use native.Mathlib.Omega.{arith}
use Rattle.std.proofs.lemmas.Result.{err_from_is_err_and}
use Rattle.std.proofs.Common.{Ok}
use Rattle.coding.specs.Coding.{outcome}
use Rattle.coding.specs.Models.{models_coding}
use Rattle.coding.proofs.Models.{models-held, models-back}
use Rattle.coding.proofs.Calls.{encoded-refused, encoded-accepted}
use Rattle.path.specs.Model.{lists, path_of}
use Rattle.path.specs.Update.{tests_made}
use Rattle.path.specs.Numbers.{number_of}
use Rattle.path.specs.Inner.{model_of, answer_of, kept_as}
use Rattle.path.proofs.Numbers.{number_some}
use Rattle.path.proofs.Cases.{refused-by, passes_over, accepted, stored-after, stored-places, not-stored}
use Rattle.byte_paths.specs.Paths.{path_answers, path_told, append_call}
use Rattle.byte_paths.proofs.append_whole.Goals as goal
use Rattle.byte_paths.proofs.append_whole.Goals.{in-Some, in_default}

pub returns-in_err-judged : goal.returns-in_err-judged
returns-in_err-judged c =
    let a = c.args in
    let strings = lists a.sizes.now a.losses.now a.weights.now in
    let given = models_coding.numbers strings in
    let r = c.in_err-judged.field-0.0 in
    let p = err_from_is_err_and c.from_residual.result c.from_residual.ensures.1 in
    let e = refused-by given a.entries (model_of a.new) (number_of r) c.in_err-judged.ensures.refusal (number_some r) in
    rw (p.1, p.2) (encoded-refused models_coding path_answers strings (append_call a.entries (model_of a.new) tt given) (number_of r) (number_some r) given (ap path_told e))

pub store_item-requires : goal.store_item-requires
store_item-requires c =
    let a = c.args in
    let given = models_coding.numbers (lists a.sizes.now a.losses.now a.weights.now) in
    let places = stored-places given a.entries (model_of a.new) c.in_ok-judged.judged (sym c.in_ok-judged.ensures.refusal) c.in_ok-judged.ensures.judged c.in-Some.kept c.in-Some.is in
    record { whole = omega (arith, c.requires); inside = omega (arith, places.0.in_sizes); room = places.1.in_sizes }

pub store_item-requires-in-Some : goal.store_item-requires-in-Some
store_item-requires-in-Some c =
    let a = c.args in
    let given = models_coding.numbers (lists a.sizes.now a.losses.now a.weights.now) in
    let places = stored-places given a.entries (model_of a.new) c.in_ok-judged.judged (sym c.in_ok-judged.ensures.refusal) c.in_ok-judged.ensures.judged c.in-Some.kept c.in-Some.is in
    record { whole = omega (arith, c.requires); inside = omega (arith, places.0.in_losses); room = places.1.in_losses }

pub store_item-requires-in-Some-2 : goal.store_item-requires-in-Some-2
store_item-requires-in-Some-2 c =
    let a = c.args in
    let given = models_coding.numbers (lists a.sizes.now a.losses.now a.weights.now) in
    let places = stored-places given a.entries (model_of a.new) c.in_ok-judged.judged (sym c.in_ok-judged.ensures.refusal) c.in_ok-judged.ensures.judged c.in-Some.kept c.in-Some.is in
    record { whole = omega (arith, c.requires); inside = omega (arith, places.0.in_weights); room = places.1.in_weights }

pub returns : goal.returns
returns c =
    let a = c.args in
    let strings = lists a.sizes.now a.losses.now a.weights.now in
    let given = models_coding.numbers strings in
    let new = model_of a.new in
    let j = c.in_ok-judged.judged in
    let passes = sym c.in_ok-judged.ensures.refusal in
    let final = lists c.match-judged.sizes c.match-judged.losses c.match-judged.weights in
    elim c.match-judged.branch [
      | in-Some w ↦
          let k = w.in-Some.kept in
          let s = stored-after given a.entries new j passes c.in_ok-judged.ensures.judged k w.in-Some.is in
          let left = kept_as (k + 1) (tests_made (path_of given a.entries) new) in
          let sizes = w.sizes-is ∙ w.store_item.ensures in
          let losses = w.losses-is ∙ w.store_item-in-Some.ensures in
          let weights = w.weights-is ∙ w.store_item-in-Some-2.ensures in
          (λ i. outcome (answer_of (Ok (s.left i))) final)
          ∙ encoded-accepted models_coding path_answers strings (append_call a.entries new tt given) (answer_of (Ok left)) refl _
          (ap path_told (accepted given a.entries new s.may s.tried k s.stays s.fits _ _ refl refl refl refl)) final (λ i. lists (sizes i) (losses i) (weights i))
      | in_default w ↦
          let s = not-stored given a.entries new j passes c.in_ok-judged.ensures.judged w.in_default.not-Some in
          let held = models-held strings c.slice_known-1.given c.slice_known-2-1.given c.slice_known-3-1.given in
          (λ i. outcome (answer_of (Ok (s.left i))) (lists (w.sizes-is i) (w.losses-is i) (w.weights-is i)))
          ∙ encoded-accepted models_coding path_answers strings (append_call a.entries new tt given) (answer_of (Ok (kept_as a.entries 0))) refl given
          (ap path_told (passes_over given a.entries new s.may s.over 0 0 refl refl)) strings (models-back strings held c.requires)
    ]
