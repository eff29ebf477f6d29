-- `path::ordered` meets its contract. The loop's invariant: the check has come to the entry before the place at hand.
use Prim.Native.Nat.{◌-◌}
use Rattle.path.proofs.Turns.{Reached}
use Rattle.path.proofs.ordered.Given as goal

abbrev pub invariant-loop-at : goal.invariant-loop-at
invariant-loop-at g l = Reached (g.M.Models.held l.models) l.entries (l.at - 1)
