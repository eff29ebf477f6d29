-- `stream::Table::cell_due` meets its contract: both answers by the test of the definition.
use borrow.Author.Tests.{lt-ltb, le-ltb}
use Rattle.stream.specs.Table.{cell_due}
use Rattle.stream.proofs.table.Table.cell_due.Goals as goal

pub value_at-v-requires : goal.value_at-v-requires
value_at-v-requires c = c.requires

pub returns-then-k-j : goal.returns-then-k-j
unfolding cell_due
returns-then-k-j c = rw (c.value_at-v.ensures, lt-ltb c.args.k c.args.j c.if-k-j.true)

pub returns-else-k-j : goal.returns-else-k-j
unfolding cell_due
returns-else-k-j c = rw (c.value_at-v.ensures, le-ltb c.args.k c.args.j c.if-k-j.false)
