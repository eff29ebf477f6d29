-- `path::scan` meets its contract. The loop's invariant: the scan has come to the first i entries.
use mathlib.Core.Path.{ap}
use native.Mathlib.Omega.{arith}
use Rattle.path.specs.declared.tally.Tally.{Tally}
use Rattle.path.proofs.Scans.{scan-start, scan-asks, scan-on, scan-ends}
use Rattle.path.proofs.scan.Goals as goal

pub loop-made-init : goal.loop-made-init
loop-made-init g c =
    let a = c.args in
    let h = g.M.Models.held a.models.now in
    scan-start h.losses h.weights a.entries a.loss a.weight a.start.count c.requires.0

pub test-tested-requires : goal.test-tested-requires
test-tested-requires g c =
    let a = c.args in
    let h = g.M.Models.held a.models.now in
    scan-asks h.losses h.weights a.entries a.loss a.weight a.start.count c.loop-made.i c.loop-made.tests.count c.loop-made.invariant c.requires.1

pub overflow_sub-i : goal.overflow_sub-i
overflow_sub-i g c = omega (arith, c.loop-made.invariant.some)

pub loop-made-smaller : goal.loop-made-smaller
loop-made-smaller g c = omega (arith, c.loop-made.invariant.some)

pub loop-made-preserved : goal.loop-made-preserved
loop-made-preserved g c =
    let a = c.args in
    let h = g.M.Models.held a.models.now in
    let tested = c.test-tested in
    scan-on h.losses h.weights a.entries a.loss a.weight a.start.count c.loop-made.i c.loop-made.tests.count c.loop-made.invariant
    tested.result.holds tested.ensures.0 c.if-tested.false _ (ap (λ (x : Tally). x.count) tested.ensures.1)

pub returns : goal.returns
returns g c s k =
    let a = c.args in
    let h = g.M.Models.held a.models.now in
    let tested = c.test-tested in
    scan-ends h.losses h.weights a.entries a.loss a.weight a.start.count c.loop-made.i c.loop-made.tests.count c.loop-made.invariant
    tested.result.holds tested.ensures.0 c.if-tested.true _ tested.ensures.1 s k
