-- `stream::fill_rows` meets its contract. The invariant: the first k places of the column are filled.
use native.Mathlib.Numerals.{add-one}
use native.Mathlib.Omega.{arith}
use Rattle.stream.proofs.Steps.{filled-start, filled-asks, filled-step, filled-end}
use Rattle.stream.proofs.fill_rows.Goals as goal

pub loop-k-init : goal.loop-k-init
loop-k-init c = let a = c.args in filled-start a.samples.now a.owns.now a.table.now c.requires

pub next_value-v-requires : goal.next_value-v-requires
next_value-v-requires c =
    let a = c.args in
    (filled-asks a.samples.now a.owns.now a.table.now c.requires c.loop-k.table c.loop-k.k c.loop-k.invariant, omega arith)

pub overflow_sub-n : goal.overflow_sub-n
overflow_sub-n c = omega (arith, c.requires.some)

pub overflow_add-k : goal.overflow_add-k
overflow_add-k c = omega (arith, c.requires.short)

pub overflow_mul-k-in-loop-k : goal.overflow_mul-k-in-loop-k
overflow_mul-k-in-loop-k c = omega (arith, c.requires.short)

pub put-requires : goal.put-requires
put-requires c = omega (arith, c.requires.some, c.requires.short, c.requires.long, c.loop-k.invariant.long)

pub loop-k-preserved : goal.loop-k-preserved
loop-k-preserved c =
    let a = c.args in
    let l = c.loop-k in
    rw (c.put.ensures, add-one) (filled-step a.samples.now a.owns.now a.table.now c.requires l.table l.k l.invariant _ (omega arith) c.next_value-v.ensures)

pub returns : goal.returns
returns c =
    let a = c.args in
    filled-end a.samples.now a.owns.now a.table.now c.requires c.loop-k.table c.loop-k.k c.loop-k.invariant (omega arith)
