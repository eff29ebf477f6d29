-- `report::forms::read_weights` reads word after word. The loop's invariant: the form is weights, those in the buffer and those of the
-- words left, if these are figures.
use Rattle.std.proofs.Common.{refl, Some, None, arith}
use Rattle.text.specs.Text.{bytes}
use Rattle.text.specs.Inner.{words_left}
use Rattle.text.proofs.Readings.{figure-known, figure-none}
use Rattle.report.specs.Forms.{form_of}
use Rattle.report.proofs.Layouts.{weights-after, weights-not, weights-begun, weights-step, weights-stop, weights-end}
use Rattle.report.proofs.forms.read_weights.Goals as goal

pub returns-in_err-words : goal.returns-in_err-words
unfolding bytes
returns-in_err-words c = rw c.from_residual.ensures (weights-not c.args.line.now c.requires.1 c.in_err-words.ensures)

pub loop-word-init : goal.loop-word-init
unfolding bytes
loop-word-init c =
    let line = c.args.line.now in
    let words = words_left c.in_ok-words.words in
    rw c.into_iter-word-iterator.ensures.into_iter_gives
    (weights-begun (form_of line) c.args.weights.now words (weights-after line c.requires.1 words c.in_ok-words.ensures) c.requires.0)

pub returns-in_err-weight : goal.returns-in_err-weight
returns-in_err-weight c =
    let l = c.loop-word in
    let none = figure-none _ None c.in_err-weight.ensures refl in
    rw c.from_residual-in_err-weight.ensures
    (weights-stop c.in-Some.word.now _ (rw c.in-Some.ensures.steps at l.invariant) none)

pub loop-word-preserved : goal.loop-word-preserved
loop-word-preserved c =
    let l = c.loop-word in
    let x = c.in_ok-weight.weight in
    let k = figure-known c.in-Some.word.now (Some x) x c.in_ok-weight.ensures refl in
    weights-step c.in-Some.word.now _ x _ _ (rw c.in-Some.ensures.steps at l.invariant) k.0 k.1 c.keep_weight-count.ensures (omega (arith, c.keep_weight-count.auto))

pub returns : goal.returns
returns c = weights-end (rw c.in-None.ensures.steps.0 at c.loop-word.invariant)
