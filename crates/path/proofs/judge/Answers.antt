-- `path::judge` meets its contract: refused for its input, passed over, refused for want of room, or tried.
use mathlib.Core.Path.{◌≡◌, ap, sym, ◌∙◌}
use Prim.Native.Nat.{◌+◌}
use native.Mathlib.Omega.{arith}
use Rattle.std.proofs.Common.{Some}
use Rattle.std.proofs.lemmas.Result.{err_from_is_err_and}
use Rattle.path.specs.declared.Kept.{Kept}
use Rattle.path.specs.declared.tally.Tally.{Tally}
use Rattle.path.specs.Model.{path_of}
use Rattle.path.specs.Update.{tests_made}
use Rattle.path.specs.Inner.{tally_of, model_of}
use Rattle.path.proofs.Numbers.{number_some}
use Rattle.path.proofs.Paths.{length-path}
use Rattle.path.proofs.Order.{acceptable, scannable}
use Rattle.path.proofs.Cases.{input-decides, over-passes, kept_small, room-lacks, room-passes}
use Rattle.path.proofs.judge.Goals as goal

pub returns-in_err-check_input-clause-refusal : goal.returns-in_err-check_input-clause-refusal
returns-in_err-check_input-clause-refusal g c =
    let a = c.args in
    let p = err_from_is_err_and c.from_residual.result c.from_residual.ensures.1 in
    rw (p.1, p.2) (input-decides (g.M.Models.held a.models.now) a.entries (model_of a.new) _ c.in_err-check_input.ensures (number_some c.in_err-check_input.field-0.0))

pub passed_over-requires : goal.passed_over-requires
passed_over-requires g c =
    let a = c.args in
    (acceptable (g.M.Models.held a.models.now) a.entries (model_of a.new) (sym c.in_ok-check_input.ensures)).valid.places.in_losses

pub returns-then-passed_over-clause-refusal : goal.returns-then-passed_over-clause-refusal
returns-then-passed_over-clause-refusal g c =
    let a = c.args in
    let t = g.M.Models.held a.models.now in
    sym (over-passes t a.entries (model_of a.new) (sym c.in_ok-check_input.ensures) (sym (c.passed_over.ensures t.sizes t.weights a.new.size a.new.weight) ∙ c.if-passed_over.true))

pub returns-then-passed_over-clause-judged : goal.returns-then-passed_over-clause-judged
returns-then-passed_over-clause-judged g c =
    let a = c.args in
    let t = g.M.Models.held a.models.now in
    rw (sym (c.passed_over.ensures t.sizes t.weights a.new.size a.new.weight) ∙ c.if-passed_over.true, length-path t a.entries, c.none.ensures)

pub try_model-found-requires : goal.try_model-found-requires
try_model-found-requires g c =
    let a = c.args in
    let t = g.M.Models.held a.models.now in
    scannable t a.entries (model_of a.new) c.none-2.result.count (acceptable t a.entries (model_of a.new) (sym c.in_ok-check_input.ensures)) (omega (arith, ap (λ (x : Tally). x.count) c.none-2.ensures))

pub overflow_add-count : goal.overflow_add-count
overflow_add-count g c =
    let a = c.args in
    let t = g.M.Models.held a.models.now in
    let passes = sym c.in_ok-check_input.ensures in
    let tried = sym (c.passed_over.ensures t.sizes t.weights a.new.size a.new.weight) ∙ c.if-passed_over.false in
    let stay = ap (λ (x : Kept). x.entries) (c.try_model-found.ensures t.sizes a.new.size) in
    omega (arith, kept_small t a.entries (model_of a.new) passes tried c.try_model-found.result.entries stay)

pub returns-then-not-path_has_room-clause-refusal : goal.returns-then-not-path_has_room-clause-refusal
returns-then-not-path_has_room-clause-refusal g c =
    let a = c.args in
    let t = g.M.Models.held a.models.now in
    let passes = sym c.in_ok-check_input.ensures in
    let tried = sym (c.passed_over.ensures t.sizes t.weights a.new.size a.new.weight) ∙ c.if-passed_over.false in
    let stay = ap (λ (x : Kept). x.entries) (c.try_model-found.ensures t.sizes a.new.size) in
    room-lacks t a.entries (model_of a.new) passes tried c.try_model-found.result.entries stay (sym c.path_has_room.ensures ∙ c.if-not-path_has_room.true)

pub returns-clause-refusal : goal.returns-clause-refusal
returns-clause-refusal g c =
    let a = c.args in
    let t = g.M.Models.held a.models.now in
    let passes = sym c.in_ok-check_input.ensures in
    let tried = sym (c.passed_over.ensures t.sizes t.weights a.new.size a.new.weight) ∙ c.if-passed_over.false in
    let stay = ap (λ (x : Kept). x.entries) (c.try_model-found.ensures t.sizes a.new.size) in
    sym (room-passes t a.entries (model_of a.new) passes tried c.try_model-found.result.entries stay (sym c.path_has_room.ensures ∙ c.if-not-path_has_room.false))

pub returns-clause-judged : goal.returns-clause-judged
returns-clause-judged g c =
    let a = c.args in
    let t = g.M.Models.held a.models.now in
    let tried = sym (c.passed_over.ensures t.sizes t.weights a.new.size a.new.weight) ∙ c.if-passed_over.false in
    let found = c.try_model-found.ensures t.sizes a.new.size in
    let none = ap (λ (x : Tally). x.count) c.none-2.ensures in
    let made : c.try_model-found.result.tests ≡ tally_of (tests_made (path_of t a.entries) (model_of a.new)) = ap (λ (x : Kept). x.tests) found ∙ ap tally_of (omega (arith, none)) in
    rw tried (λ i. record { path = record { entries = (found i).entries + 1; tests = made i }; after = Some (found i).entries })
