-- `path::check_input` meets its contract: 8 where the path is not valid, and else what the model's checks say.
use mathlib.Core.Path.{sym, ◌∙◌}
use Rattle.path.specs.Model.{path_of}
use Rattle.path.specs.Refusal.{check, refusal_of, valid_path, model_checks}
use Rattle.path.specs.Inner.{model_of}
use Rattle.path.proofs.Order.{valid-parts}
use Rattle.path.proofs.Checks.{check-fails, check-passes}
use Rattle.path.proofs.check_input.Goals as goal

pub returns-then-not-valid_path : goal.returns-then-not-valid_path
returns-then-not-valid_path g c =
    let a = c.args in
    let t = g.M.Models.held a.models.now in
    sym (check-fails (check 8 (valid_path t a.entries)) _ (sym c.valid_path.ensures ∙ c.if-not-valid_path.true))

pub check_model-requires : goal.check_model-requires
check_model-requires g c =
    let a = c.args in
    let t = g.M.Models.held a.models.now in
    (valid-parts t a.entries (sym c.valid_path.ensures ∙ c.if-not-valid_path.false)).places

pub returns : goal.returns
returns g c =
    let a = c.args in
    let t = g.M.Models.held a.models.now in
    let cs = model_checks (path_of t a.entries) (model_of a.new) in
    ◌∙◌ {b = refusal_of cs} c.check_model.ensures
    (sym (check-passes (check 8 (valid_path t a.entries)) cs (sym c.valid_path.ensures ∙ c.if-not-valid_path.false)))
