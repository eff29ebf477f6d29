-- `text::words::read_figure` adds digit to digit. The loop's invariant: the word is a figure if what is left of it is all digits, and
-- its value goes on from the value so far, which is small.
use Rattle.std.proofs.Common.{◌≡◌, true, ◌<◌, ◌^◌, drop}
use Rattle.text.specs.Text.{is_shaped, all_digits, value_from}
use Rattle.text.proofs.words.read_figure.Given as goal

abbrev pub invariant-loop-b : goal.invariant-loop-b
invariant-loop-b l = record {
  shaped : is_shaped l.word ≡ true;
  small : l.value < 10 ^ l.b-index;
  digits : all_digits l.word ≡ all_digits (drop l.b-index l.word);
  value : value_from 0 l.word ≡ value_from l.value (drop l.b-index l.word);
}
