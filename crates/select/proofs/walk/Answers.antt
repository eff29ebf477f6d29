-- `select::walk` meets its contract. The loop's invariant: the walk from the entry before the next ends where the whole walk does.
use mathlib.Core.Path.{◌≡◌}
use Prim.Native.Nat.{◌+◌, ◌-◌}
use native.Mathlib.Omega.{arith}
use Rattle.select.proofs.Walks.{walk_ends, walk-stops, walk-on}
use Rattle.select.proofs.walk.Goals as goal

pub returns-then-cost-next_cost : goal.returns-then-cost-next_cost
returns-then-cost-next_cost g c =
    let a = c.args in
    let h = g.M.Models.held a.models.now in
    let last : a.entries - 1 + 1 ≡ a.entries = omega arith in
    let costs = rw (c.loss_at-in-loop-next.ensures, c.weight_at-in-loop-next.ensures) at c.cost-next_cost.ensures in
    rw last at (walk-stops h.losses h.weights a.penalty.p a.penalty.q (a.entries - 1) (c.loop-next.next - 1) c.loop-next.cost c.loop-next.invariant (omega arith) c.loop-next.next _ (omega arith) costs c.if-cost-next_cost.true)

pub loop-next-preserved : goal.loop-next-preserved
loop-next-preserved g c =
    let a = c.args in
    let h = g.M.Models.held a.models.now in
    let at : c.loop-next.next ≡ c.loop-next.next + 1 - 1 = omega arith in
    let costs = rw (c.loss_at-in-loop-next.ensures, c.weight_at-in-loop-next.ensures) at c.cost-next_cost.ensures in
    rw at at (walk-on h.losses h.weights a.penalty.p a.penalty.q (a.entries - 1) (c.loop-next.next - 1) c.loop-next.cost c.loop-next.invariant (omega arith) c.loop-next.next _ (omega arith) costs c.if-cost-next_cost.false)

pub returns : goal.returns
returns g c =
    let a = c.args in
    let h = g.M.Models.held a.models.now in
    let last : a.entries - 1 + 1 ≡ a.entries = omega arith in
    let at : c.loop-next.next - 1 ≡ a.entries - 1 = omega arith in
    rw (last, at) at (walk_ends h.losses h.weights a.penalty.p a.penalty.q (a.entries - 1) (c.loop-next.next - 1) c.loop-next.cost c.loop-next.invariant (omega arith))
