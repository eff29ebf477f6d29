-- `select::walk` meets its contract. The loop's invariant: the walk from the entry before the next ends where the whole walk does.
use Prim.Native.Nat.{◌-◌}
use Rattle.select.proofs.Walks.{Walked}
use Rattle.select.proofs.walk.Given as goal

abbrev pub invariant-loop-next : goal.invariant-loop-next
invariant-loop-next g l =
    Walked (g.M.Models.held l.models).losses (g.M.Models.held l.models).weights l.penalty.p l.penalty.q (l.entries - 1) (l.next - 1) l.cost
