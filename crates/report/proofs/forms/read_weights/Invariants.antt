-- `report::forms::read_weights` reads word after word. The loop's invariant: the form is weights, those in the buffer and those of the
-- words left, if these are figures.
use Rattle.text.specs.Inner.{words_left}
use Rattle.report.specs.Forms.{form_of}
use Rattle.report.proofs.Layouts.{WeightsSo}
use Rattle.report.proofs.forms.read_weights.Given as goal

abbrev pub invariant-loop-word : goal.invariant-loop-word
invariant-loop-word l = WeightsSo (form_of l.line) l.weights l.count (words_left l.word-iterator)
