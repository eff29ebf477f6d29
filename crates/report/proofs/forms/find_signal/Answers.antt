-- `report::forms::find_signal` takes the next line, reads it as a record form and judges it; whatever else is found is refused.
use Rattle.std.proofs.Common.{◌≡◌, ap, ◌∙◌, Some, None, arith}
use Rattle.path.specs.Numbers.{number_of}
use Rattle.path.specs.declared.refusal.Refusal.TheVariants.{Layout}
use Rattle.report.proofs.Turns.{signal-none, signal-stops, signal-refused, signal-found}
use Rattle.std.proofs.lemmas.Result.{err_from_is_err_and}
use Rattle.report.proofs.forms.find_signal.Goals as goal

pub returns-in_default : goal.returns-in_default
returns-in_default c = signal-none c.args.input.now c.next_line.result c.next_line.ensures c.in_default.not-Whole

pub returns-in_err-count : goal.returns-in_err-count
returns-in_err-count c =
    let e : c.read_signal.result ≡ None = grind arith in
    let p = err_from_is_err_and c.from_residual.result c.from_residual.ensures.1 in
    let s = signal-stops c.args.input.now _ _ c.in-Whole.ensures (rw e at c.read_signal.ensures) in
    let v = c.in_err-count.ensures in
    let l : p.0 ≡ Layout = grind (arith, p.2) in
    rw (p.1, l) s

pub returns-in_err-check_signal : goal.returns-in_err-check_signal
returns-in_err-check_signal c =
    let e : c.read_signal.result ≡ Some c.in_ok-count.count = grind arith in
    let s = rw e at c.read_signal.ensures in
    let p = err_from_is_err_and c.from_residual-in_err-check_signal.result c.from_residual-in_err-check_signal.ensures.1 in
    rw p.1 (signal-refused c.args.input.now _ _ c.in-Whole.ensures c.read_signal.new.samples c.in_ok-count.count s.0 s.1 p.0 (ap number_of p.2 ∙ c.in_err-check_signal.ensures))

pub returns : goal.returns
returns c =
    let e : c.read_signal.result ≡ Some c.in_ok-count.count = grind arith in
    let s = rw e at c.read_signal.ensures in
    signal-found c.args.input.now _ _ c.in-Whole.ensures c.read_signal.new.samples c.in_ok-count.count s.0 s.1 c.in_ok-check_signal.ensures
