-- `report::forms::read_signal` reads word after word. The loop's invariant: the form is a signal of the samples in the buffer and of the
-- words left, if these are samples.
use Rattle.text.specs.Inner.{words_left}
use Rattle.report.specs.Forms.{form_of}
use Rattle.report.proofs.Layouts.{SignalSo}
use Rattle.report.proofs.forms.read_signal.Given as goal

abbrev pub invariant-loop-word : goal.invariant-loop-word
invariant-loop-word l = SignalSo (form_of l.line) l.samples l.count (words_left l.word-iterator)
