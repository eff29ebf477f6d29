-- `report::forms::next_penalty` takes the next line and reads it as a price form.
use Rattle.std.proofs.Common.{◌≡◌, ◌∙◌, Some, None, arith}
use Rattle.path.specs.declared.refusal.Refusal.TheVariants.{Layout}
use Rattle.std.proofs.lemmas.Result.{err_from_is_err_and}
use Rattle.report.specs.Report.{answering}
use Rattle.report.proofs.Turns.{penalty-stops, penalty-found, ended-penalty, settled-off, answering-settled}
use Rattle.report.proofs.forms.next_penalty.Goals as goal

pub returns-in_err-penalty-in-Whole : goal.returns-in_err-penalty-in-Whole
returns-in_err-penalty-in-Whole c =
    let e : c.read_penalty.result ≡ None = grind arith in
    let p = err_from_is_err_and c.from_residual.result c.from_residual.ensures.1 in
    let s = penalty-stops c.args.input.now _ _ c.in-Whole.ensures (rw e at c.read_penalty.ensures) in
    let l : p.0 ≡ Layout = grind (arith, p.2) in
    rw (p.1, l) s

pub returns-in_ok-penalty-in-Whole : goal.returns-in_ok-penalty-in-Whole
returns-in_ok-penalty-in-Whole c =
    let e : c.read_penalty.result ≡ Some c.in_ok-penalty-in-Whole.penalty = grind arith in
    let s = rw e at c.read_penalty.ensures in
    penalty-found c.args.input.now _ _ c.in-Whole.ensures _ _ s.0 s.1

pub returns-in-Unended : goal.returns-in-Unended
returns-in-Unended c = λ xs k ws. settled-off (answering xs k ws) (answering-settled xs k ws) c.args.input.now _ c.in-Unended.ensures

pub returns-in-End : goal.returns-in-End
returns-in-End c = λ xs k ws. c.in-End.ensures (answering xs k ws) ∙ ended-penalty xs k ws
