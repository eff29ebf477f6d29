-- `report::forms::find_weights` looks at what comes next, and reads a line that opens so as a weights form.
use Rattle.std.proofs.Common.{◌≡◌, Some, None, arith}
use Rattle.path.specs.declared.refusal.Refusal.TheVariants.{Layout}
use Rattle.std.proofs.lemmas.Result.{err_from_is_err_and}
use Rattle.report.proofs.Weighing.{found_none, found-refused, found-line, found-other}
use Rattle.report.proofs.forms.find_weights.Goals as goal

pub returns-in_default : goal.returns-in_default
returns-in_default c =
    found_none c.args.input.now c.args.weights.now c.args.limit c.requires.1 (rw c.in_default.is at c.in_ok-line.ensures)

pub returns-in_err-count : goal.returns-in_err-count
returns-in_err-count c =
    let a = c.args in
    let e : c.read_weights.result ≡ None = grind arith in
    let p = err_from_is_err_and c.from_residual-in_err-count.result c.from_residual-in_err-count.ensures.1 in
    let l : p.0 ≡ Layout = grind (arith, p.2) in
    let ahead = rw c.in-Some.is at c.in_ok-line.ensures in
    rw (p.1, l) (found-other a.input.now c.read_weights.new.weights a.limit c.requires.1 _ _ ahead (rw e at c.read_weights.ensures))

pub returns-in_err-take_weights : goal.returns-in_err-take_weights
returns-in_err-take_weights c =
    let a = c.args in
    let e : c.read_weights.result ≡ Some c.in_ok-count.count = grind arith in
    let p = err_from_is_err_and c.from_residual-in_err-take_weights.result c.from_residual-in_err-take_weights.ensures.1 in
    let ahead = rw c.in-Some.is at c.in_ok-line.ensures in
    rw (p.1, p.2)
    (found-refused a.input.now c.read_weights.new.weights a.limit c.requires.1 _ _ c.in_ok-count.count ahead (rw e at c.read_weights.ensures) _ c.in_err-take_weights.ensures)

pub returns : goal.returns
returns c =
    let a = c.args in
    let e : c.read_weights.result ≡ Some c.in_ok-count.count = grind arith in
    let ahead = rw c.in-Some.is at c.in_ok-line.ensures in
    found-line a.input.now c.read_weights.new.weights a.limit c.requires.1 _ _ c.in_ok-count.count ahead (rw e at c.read_weights.ensures) c.in_ok-take_weights.ensures
