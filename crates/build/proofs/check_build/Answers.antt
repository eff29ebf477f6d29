-- `build::check_build` meets its contract: each number is that of the first check that fails.
use mathlib.Core.Path.{◌≡◌, ap, sym, ◌∙◌}
use mathlib.Core.List.{List}
use Prim.Native.Nat.{ℕ, max}
use lib.ListN.{length}
use Rattle.std.proofs.lemmas.Result.{err_from_is_err_and}
use Rattle.path.specs.Model.{Lists}
use Rattle.path.specs.Refusal.{refusal_of}
use Rattle.path.proofs.Numbers.{number_some}
use Rattle.build.specs.Build.{checks_of, build_checks}
use Rattle.build.specs.Inner.{lists_of}
use Rattle.build.proofs.Cases.{no-models, too_many, bad-list, no_room, all_pass}
use Rattle.build.proofs.check_build.Goals as goal

-- The number of models is that of the longest list.
counted : (a : Lists) (rooms : List ℕ) {n k : ℕ} → n ≡ max k (length a.weights) → k ≡ max (length a.sizes) (length a.losses) → refusal_of (checks_of a n rooms) ≡ refusal_of (build_checks a rooms)
counted a rooms e f = ap (λ (n : ℕ). refusal_of (checks_of a n rooms)) (e ∙ ap (λ (k : ℕ). max k (length a.weights)) f)

pub returns-then-count-eq0 : goal.returns-then-count-eq0
returns-then-count-eq0 c =
    let t = lists_of c.args.given.now in
    sym (no-models t c.args.rooms c.max-count.result c.if-count-eq0.true) ∙ counted t c.args.rooms c.max-count.ensures c.max.ensures

pub returns-then-count-gt-MAX_MODELS : goal.returns-then-count-gt-MAX_MODELS
returns-then-count-gt-MAX_MODELS c =
    let t = lists_of c.args.given.now in
    sym (too_many t c.args.rooms c.max-count.result c.if-count-eq0.false c.if-count-gt-MAX_MODELS.true) ∙ counted t c.args.rooms c.max-count.ensures c.max.ensures

pub returns-in_err-check_list : goal.returns-in_err-check_list
returns-in_err-check_list c =
    let t = lists_of c.args.given.now in
    let p = err_from_is_err_and c.from_residual.result c.from_residual.ensures.1 in
    rw (p.1, p.2)
    (sym (bad-list t c.args.rooms c.max-count.result c.if-count-eq0.false c.if-count-gt-MAX_MODELS.false _ c.in_err-check_list.ensures (number_some c.in_err-check_list.field-0.0))
    ∙ counted t c.args.rooms c.max-count.ensures c.max.ensures)

pub returns-then-not-has_room : goal.returns-then-not-has_room
returns-then-not-has_room c =
    let t = lists_of c.args.given.now in
    sym (no_room t c.args.rooms c.max-count.result c.if-count-eq0.false c.if-count-gt-MAX_MODELS.false (sym c.in_ok-check_list.ensures) (sym c.has_room.ensures ∙ c.if-not-has_room.true))
    ∙ counted t c.args.rooms c.max-count.ensures c.max.ensures

pub returns : goal.returns
returns c =
    let t = lists_of c.args.given.now in
    sym (all_pass t c.args.rooms c.max-count.result c.if-count-eq0.false c.if-count-gt-MAX_MODELS.false (sym c.in_ok-check_list.ensures) (sym c.has_room.ensures ∙ c.if-not-has_room.false))
    ∙ counted t c.args.rooms c.max-count.ensures c.max.ensures
