-- `report::forms::next_line` passes over notes. The loop's invariant: what is printed for the input is what is printed for what is left.
use Rattle.std.proofs.Common.{◌≡◌, ◌≤◌, length}
use Rattle.report.specs.Report.{State}
use Rattle.report.specs.Inner.{report_on}
use Rattle.report.proofs.forms.next_line.Given as goal

abbrev pub invariant-loop-line : goal.invariant-loop-line
invariant-loop-line l = record {
  shorter : length l.left ≤ length l.input;
  same : (s : State) → report_on s l.input ≡ report_on s l.left;
}

abbrev pub decreases-loop-line : goal.decreases-loop-line
decreases-loop-line l = length l.left
