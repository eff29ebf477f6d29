-- `report::forms::find_limit` takes the next line, reads it as a limit form and judges it; whatever else is found is refused.
use Rattle.std.proofs.Common.{◌≡◌, ap, ◌∙◌, Some, None, arith}
use Rattle.path.specs.Numbers.{number_of}
use Rattle.path.specs.declared.refusal.Refusal.TheVariants.{Layout}
use Rattle.std.proofs.lemmas.Result.{err_from_is_err_and}
use Rattle.report.proofs.Turns.{limit-none, limit-stops, limit-refused, limit-found}
use Rattle.report.proofs.forms.find_limit.Goals as goal

pub returns-in_default : goal.returns-in_default
returns-in_default c = limit-none c.args.input.now c.next_line.result c.next_line.ensures c.in_default.not-Whole

pub returns-in_err-limit : goal.returns-in_err-limit
returns-in_err-limit c =
    let e : c.read_limit.result ≡ None = grind arith in
    let p = err_from_is_err_and c.from_residual.result c.from_residual.ensures.1 in
    let s = limit-stops c.args.input.now _ _ c.in-Whole.ensures (rw e at c.read_limit.ensures) in
    let l : p.0 ≡ Layout = grind (arith, p.2) in
    rw (p.1, l) s

pub returns-in_err-check_limit : goal.returns-in_err-check_limit
returns-in_err-check_limit c =
    let e : c.read_limit.result ≡ Some c.in_ok-limit.limit = grind arith in
    let p = err_from_is_err_and c.from_residual-in_err-check_limit.result c.from_residual-in_err-check_limit.ensures.1 in
    rw p.1 (limit-refused c.args.input.now _ _ c.in-Whole.ensures c.in_ok-limit.limit (rw e at c.read_limit.ensures) p.0 (ap number_of p.2 ∙ c.in_err-check_limit.ensures))

pub returns : goal.returns
returns c =
    let e : c.read_limit.result ≡ Some c.in_ok-limit.limit = grind arith in
    limit-found c.args.input.now _ _ c.in-Whole.ensures c.in_ok-limit.limit (rw e at c.read_limit.ensures) c.in_ok-check_limit.ensures
