-- `path::passed_over` meets its contract: after an empty path nothing is passed over, and else the last loss decides.
use mathlib.Core.Path.{◌≡◌, refl}
use Prim.Native.Nat.{◌-◌}
use native.Mathlib.Omega.{arith}
use Rattle.path.proofs.Scans.{none_passed, passed-by-last}
use Rattle.path.proofs.passed_over.Goals as goal

pub returns-then-entries-ne0 : goal.returns-then-entries-ne0
returns-then-entries-ne0 g c =
    let a = c.args in
    rw c.loss_at.ensures (passed-by-last (g.M.Models.held a.models.now).losses a.entries (a.entries - 1) a.loss (omega arith))

pub returns-else-entries-ne0 : goal.returns-else-entries-ne0
returns-else-entries-ne0 g c =
    let a = c.args in
    let e : a.entries ≡ 0 = omega arith in
    rw e (none_passed (g.M.Models.held a.models.now).losses 0 a.loss refl)
