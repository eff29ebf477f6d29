-- `stream::read_column` meets its contract. The invariant: the first k losses are read.
use mathlib.Core.Path.{◌≡◌}
use Prim.Native.Nat.{ℕ, ◌<◌}
use lib.ListN.{get_or}
use Rattle.stream.specs.Table.{value}
use Rattle.stream.proofs.read_column.Given as goal

abbrev pub invariant-loop-k : goal.invariant-loop-k
invariant-loop-k l = (m : ℕ) → m < l.k → get_or l.losses m 0 ≡ value l.table.bytes.now m l.j
