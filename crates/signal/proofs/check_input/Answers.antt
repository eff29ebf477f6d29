-- `signal::check_input` meets its contract: a signal's own checks, then those of its weights.
use mathlib.Core.Path.{ap, sym, ◌∙◌}
use native.Mathlib.Omega.{arith}
use lib.ListN.{length}
use Rattle.std.proofs.lemmas.Result.{err_from_is_err_and}
use Rattle.path.specs.Numbers.{number_of}
use Rattle.path.proofs.Numbers.{number_some}
use Rattle.weights.proofs.Steps.{weighs}
use Rattle.signal.proofs.Inputs.{by-signal, by-weights}
use Rattle.signal.proofs.check_input.Goals as goal

pub returns-in_err-signal-clause-checks : goal.returns-in_err-signal-clause-checks
returns-in_err-signal-clause-checks c =
    let a = c.args in
    let p = err_from_is_err_and c.from_residual.result c.from_residual.ensures.1 in
    rw p.1 (by-signal (length a.samples.now) a.max_segments a.min_segment_len a.weights.now (number_of p.0) (ap number_of p.2 ∙ c.in_err-signal.ensures.checks) (number_some p.0))

pub returns-in_err-check_weights-clause-checks : goal.returns-in_err-check_weights-clause-checks
returns-in_err-check_weights-clause-checks c =
    let a = c.args in
    let f = c.from_residual-in_err-check_weights in
    let p = err_from_is_err_and f.result f.ensures.1 in
    rw p.1 (by-weights (length a.samples.now) a.max_segments a.min_segment_len a.weights.now (number_of p.0) c.in_ok-signal.ensures.checks (ap number_of p.2 ∙ c.in_err-check_weights.ensures))

pub returns-clause-checks : goal.returns-clause-checks
returns-clause-checks c =
    let a = c.args in
    by-weights (length a.samples.now) a.max_segments a.min_segment_len a.weights.now 0 c.in_ok-signal.ensures.checks c.in_ok-check_weights.ensures

pub returns-clause-signal : goal.returns-clause-signal
returns-clause-signal c =
    let s = c.in_ok-signal.ensures.signal in
    (s.0, s.1, s.2, weighs c.args.weights.now c.args.max_segments (sym c.in_ok-check_weights.ensures) (omega (arith, s.1, c.in_ok-signal.signal.in_range.few)))
