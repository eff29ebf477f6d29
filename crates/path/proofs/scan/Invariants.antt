-- `path::scan` meets its contract. The loop's invariant: the scan has come to the first i entries.
use Rattle.path.proofs.Scans.{Scanned}
use Rattle.path.proofs.scan.Given as goal

abbrev pub invariant-loop-made : goal.invariant-loop-made
invariant-loop-made g l =
    Scanned (g.M.Models.held l.models).losses (g.M.Models.held l.models).weights l.entries l.loss l.weight l.initial.tests.count l.i l.tests.count

abbrev pub decreases-loop-made : goal.decreases-loop-made
decreases-loop-made g l = l.i
