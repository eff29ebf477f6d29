-- `report::forms::check_form` refuses a form without weights, and judges others as a call does.
use mathlib.Core.Path.{sym, ◌∙◌}
use borrow.Author.Tests.{eqb-true, eqb-false}
use Rattle.report.proofs.Weighing.{checks-none, checks-some}
use Rattle.report.proofs.forms.check_form.Goals as goal

pub returns-then-is_empty : goal.returns-then-is_empty
returns-then-is_empty c = checks-none c.args.weights.now c.args.limit (eqb-true _ 0 (sym c.is_empty.ensures ∙ c.if-is_empty.true))

pub returns : goal.returns
returns c = c.check_weights.ensures ∙ checks-some c.args.weights.now c.args.limit (eqb-false _ 0 (sym c.is_empty.ensures ∙ c.if-is_empty.false))
