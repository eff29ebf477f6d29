-- `byte_paths::select` meets its contract: refused under 11, or the selection from the numbers where they lie.
use mathlib.Core.Path.{ap, ◌∙◌}
use native.Mathlib.Omega.{arith}
use Rattle.coding.specs.Coding.{Outcome, none}
use Rattle.coding.specs.Models.{models_coding}
use Rattle.coding.proofs.Calls.{eleven, whole-strings}
use Rattle.path.specs.Model.{lists}
use Rattle.select.specs.declared.SelectResult.{SelectResult}
use Rattle.byte_paths.specs.Paths.{select_answers, select_call}
use Rattle.byte_paths.proofs.select.Goals as goal

pub returns-then-spare-ne0 : goal.returns-then-spare-ne0
returns-then-spare-ne0 c =
    let a = c.args in
    let strings = lists a.sizes.now a.losses.now a.weights.now in
    c.from.ensures
    ∙ ap (λ (o : Outcome SelectResult none.Strings). o.answer)
    (eleven models_coding none select_answers (select_call a.entries a.p a.q) strings tt (λ e. c.if-spare-ne0.true (omega (arith, c.spare.ensures))))

pub returns : goal.returns
returns c =
    let a = c.args in
    let strings = lists a.sizes.now a.losses.now a.weights.now in
    c.from-2.ensures ∙ c.select_from.ensures
    ∙ ap (λ (o : Outcome SelectResult none.Strings). o.answer)
    (whole-strings models_coding none select_answers (select_call a.entries a.p a.q) strings tt (omega (arith, c.spare.ensures, c.if-spare-ne0.false)))
