-- `stream::Table::marks_due` meets its contract. The invariant: the bits gathered are those of the mark just where each value passed is as is due.
use Rattle.stream.proofs.Due.{Common}
use Rattle.stream.proofs.table.Table.marks_due.Given as goal

abbrev pub invariant-loop-j : goal.invariant-loop-j
invariant-loop-j l = Common l.self.bytes.now l.k l.j l.common
