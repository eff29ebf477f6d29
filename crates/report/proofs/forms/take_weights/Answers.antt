-- `report::forms::take_weights` judges the weights, and looks at what comes next.
use Rattle.std.proofs.Common.{ap, ◌∙◌}
use Rattle.path.specs.Numbers.{number_of}
use Rattle.std.proofs.lemmas.Result.{err_from_is_err_and}
use Rattle.report.proofs.Weighing.{taken-refused, taken, taken-off, taken-line}
use Rattle.report.proofs.forms.take_weights.Goals as goal

pub returns-in_err-check_form : goal.returns-in_err-check_form
returns-in_err-check_form c =
    let a = c.args in
    let p = err_from_is_err_and c.from_residual.result c.from_residual.ensures.1 in
    rw p.1 (taken-refused a.weights.now a.limit a.rest.now p.0 (ap number_of p.2 ∙ c.in_err-check_form.ensures))

pub returns-in_err-look_ahead : goal.returns-in_err-look_ahead
returns-in_err-look_ahead c =
    let a = c.args in
    let p = err_from_is_err_and c.from_residual-in_err-look_ahead.result c.from_residual-in_err-look_ahead.ensures.1 in
    rw (p.1, p.2) (taken-off a.weights.now a.limit a.rest.now c.in_ok-check_form.ensures _ c.in_err-look_ahead.ensures)

pub returns-in-None : goal.returns-in-None
returns-in-None c =
    let a = c.args in
    taken a.weights.now a.limit a.rest.now c.in_ok-check_form.ensures (rw c.in-None.is at c.in_ok-look_ahead.ensures)

pub returns-in-Some : goal.returns-in-Some
returns-in-Some c =
    let a = c.args in
    taken-line a.weights.now a.limit a.rest.now c.in_ok-check_form.ensures _ _ (rw c.in-Some.is at c.in_ok-look_ahead.ensures)
