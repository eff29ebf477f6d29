-- `report::forms::read_signal` reads word after word. The loop's invariant: the form is a signal of the samples in the buffer and of the
-- words left, if these are samples.
use Rattle.std.proofs.Common.{refl, Some, None, arith}
use mir.Facts.{to_z-of_z}
use Rattle.text.specs.Text.{bytes}
use Rattle.text.specs.Inner.{words_left}
use Rattle.text.proofs.Readings.{sample-known, sample-none, sample-in-range}
use Rattle.report.specs.Forms.{form_of}
use Rattle.report.proofs.Layouts.{signal-after, signal-not, after-few, signal-begun, signal-step, signal-stop, signal-end}
use Rattle.report.proofs.forms.read_signal.Goals as goal

pub returns-in_err-words : goal.returns-in_err-words
unfolding bytes
returns-in_err-words c = rw c.from_residual.ensures (signal-not c.args.line.now c.requires.1 c.in_err-words.ensures)

pub loop-word-init : goal.loop-word-init
unfolding bytes
loop-word-init c =
    let line = c.args.line.now in
    let words = words_left c.in_ok-words.words in
    let few = after-few (bytes "record") line words c.in_ok-words.ensures in
    rw c.into_iter-word-iterator.ensures.into_iter_gives
    (signal-begun (form_of line) c.args.samples.now words (signal-after line c.requires.1 words c.in_ok-words.ensures) (omega (arith, few, c.requires.0)))

pub returns-in_err-samples : goal.returns-in_err-samples
returns-in_err-samples c =
    let l = c.loop-word in
    let none = sample-none _ None c.in_err-samples.ensures refl in
    rw c.from_residual-in_err-samples.ensures
    (signal-stop c.in-Some.word.now _ (rw c.in-Some.ensures.steps at l.invariant) none)

pub loop-word-preserved : goal.loop-word-preserved
loop-word-preserved c =
    let l = c.loop-word in
    let x = c.in_ok-samples.field-0 in
    let k = sample-known c.in-Some.word.now (Some x) x c.in_ok-samples.ensures refl in
    let fits = rw k.1 at (sample-in-range _ k.0) in
    rw (to_z-of_z fits)
    (signal-step c.in-Some.word.now _ x (rw c.in-Some.ensures.steps at l.invariant) k.0 k.1)

pub returns : goal.returns
returns c = signal-end (rw c.in-None.ensures.steps.0 at c.loop-word.invariant)
