-- `foldwig_report::read_full`: so many bytes have been put to the front, and each turn puts one more at least.
use Rattle.std.proofs.Common.{length, ◌-◌, ◌≤◌}
use Rattle.foldwig_report.proofs.read_full.Given as goal

abbrev pub invariant-loop-done : goal.invariant-loop-done
invariant-loop-done g l = l.done ≤ length l.bytes

abbrev pub decreases-loop-done : goal.decreases-loop-done
decreases-loop-done g l = length l.bytes - l.done
