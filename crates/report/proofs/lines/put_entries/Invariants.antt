-- `report::lines::put_entries` puts entry after entry. The loop's invariant: the text of the first i entries lies over the output.
use mathlib.Core.Path.{◌≡◌}
use lib.ListN.{length}
use Rattle.path.specs.Model.{lists, path_of}
use Rattle.text.specs.Inner.{Put}
use Rattle.report.specs.Lines.{entries_text}
use Rattle.report.proofs.lines.put_entries.Given as goal

abbrev pub invariant-loop-i : goal.invariant-loop-i
invariant-loop-i l =
    (length l.output ≡ length l.initial.output) × Put (entries_text l.given (path_of (lists l.path.sizes.now l.path.losses.now l.path.weights.now) l.i)) l.at l.initial.output l.output l.place
