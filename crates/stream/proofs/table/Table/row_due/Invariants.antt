-- `stream::Table::row_due` meets its contract. The invariant: the row is as is due if its first j values are.
use mathlib.Core.Path.{◌≡◌}
use Prim.Native.Nat.{◌≤◌}
use Rattle.stream.specs.Table.{row_due}
use Rattle.stream.proofs.table.Table.row_due.Given as goal

abbrev pub invariant-loop-j : goal.invariant-loop-j
invariant-loop-j l = (l.j ≤ l.n) × (row_due l.self.bytes.now l.k l.n ≡ row_due l.self.bytes.now l.k l.j)
