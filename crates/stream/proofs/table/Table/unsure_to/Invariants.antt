-- `stream::Table::unsure_to` meets its contract. The invariant: no value passed, in either half, exceeds the bits gathered.
use Prim.Native.Nat.{◌+◌}
use Rattle.stream.proofs.Due.{Gathered}
use Rattle.stream.proofs.table.Table.unsure_to.Given as goal

abbrev pub invariant-loop-j : goal.invariant-loop-j
invariant-loop-j l = Gathered l.self.bytes.now l.k l.marks l.j l.bits × Gathered l.self.bytes.now l.k (l.marks + l.half) (l.j + l.half) l.bits
