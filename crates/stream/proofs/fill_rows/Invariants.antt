-- `stream::fill_rows` meets its contract. The invariant: the first k places of the column are filled.
use Rattle.stream.proofs.Steps.{FilledTo}
use Rattle.stream.proofs.fill_rows.Given as goal

abbrev pub invariant-loop-k : goal.invariant-loop-k
invariant-loop-k l = FilledTo l.samples l.initial.table l.table l.k
