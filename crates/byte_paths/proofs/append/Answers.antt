-- `byte_paths::append` meets its contract: refused under 11, or the append where no byte is left over.
use mathlib.Core.Path.{ap, ◌∙◌}
use native.Mathlib.Omega.{arith}
use Rattle.coding.specs.Coding.{outcome, none}
use Rattle.coding.specs.Models.{models_coding}
use Rattle.coding.proofs.Calls.{eleven, whole-strings}
use Rattle.path.specs.Model.{model, lists}
use Rattle.path.specs.declared.PathResult.{PathResult}
use Rattle.byte_paths.specs.Paths.{path_answers, append_call}
use Rattle.byte_paths.proofs.append.Goals as goal

pub returns-then-spare-ne0 : goal.returns-then-spare-ne0
returns-then-spare-ne0 c =
    let a = c.args in
    let lent = lists a.sizes.now a.losses.now a.weights.now in
    ap (λ (r : PathResult). outcome r lent) c.from.ensures
    ∙ eleven none models_coding path_answers (append_call a.entries (model a.size a.loss a.weight)) tt lent (λ e. c.if-spare-ne0.true (omega (arith, c.spare.ensures)))

pub returns : goal.returns
returns c =
    let a = c.args in
    let lent = lists a.sizes.now a.losses.now a.weights.now in
    let after = c.append_whole.new in
    ap (λ (r : PathResult). outcome r (lists after.sizes after.losses after.weights)) c.from-2.ensures
    ∙ c.append_whole.ensures
    ∙ whole-strings none models_coding path_answers (append_call a.entries (model a.size a.loss a.weight)) tt lent (omega (arith, c.spare.ensures, c.if-spare-ne0.false))
