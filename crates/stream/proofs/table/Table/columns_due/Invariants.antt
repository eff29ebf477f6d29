-- `stream::Table::columns_due` meets its contract. The invariant: the columns are as is due if their first k rows are.
use mathlib.Core.Path.{◌≡◌}
use Prim.Native.Nat.{◌≤◌}
use Rattle.stream.specs.Table.{max_rows, rows_due, columns_due}
use Rattle.stream.proofs.table.Table.columns_due.Given as goal

abbrev pub invariant-loop-k : goal.invariant-loop-k
invariant-loop-k l = (l.k ≤ max_rows) × (columns_due l.self.bytes.now l.n ≡ rows_due l.self.bytes.now l.n l.k)
