-- `stream::Table::value_at` meets its contract: the place lies within the table.
use native.Mathlib.Omega.{arith}
use Rattle.stream.specs.Table.{value}
use Rattle.stream.proofs.table.Table.value_at.Goals as goal

pub overflow_mul-k : goal.overflow_mul-k
overflow_mul-k c = omega (arith, c.requires.few)

pub overflow_sub-j : goal.overflow_sub-j
overflow_sub-j c = omega (arith, c.requires.one)

pub overflow_add-k : goal.overflow_add-k
overflow_add-k c = omega (arith, c.requires.few, c.requires.within)

pub overflow_mul-k-2 : goal.overflow_mul-k-2
overflow_mul-k-2 c = omega (arith, c.requires.few, c.requires.within)

pub get-requires : goal.get-requires
get-requires c = omega (arith, c.requires.few, c.requires.one, c.requires.within, c.args.self.whole)

pub returns : goal.returns
unfolding value
returns c = c.get.ensures
