-- `stream::next_value` meets its contract: one segment, more segments than samples, or the least sum.
use mathlib.Core.Path.{sym}
use Prim.Native.Nat.{◌-◌}
use native.Mathlib.Omega.{arith}
use Rattle.stream.proofs.Columns.{next-mark}
use Rattle.stream.proofs.Starts.{sums-from}
use Rattle.stream.proofs.Steps.{next_one, next_more}
use Rattle.stream.proofs.next_value.Goals as goal

pub bounds-owns-0 : goal.bounds-owns-0
bounds-owns-0 c = omega (arith, c.requires.0.some, c.requires.0.room)

pub returns-then-k-eq0 : goal.returns-then-k-eq0
returns-then-k-eq0 c =
    let a = c.args in
    next_one a.samples.now a.owns.now a.table.bytes.now a.k c.if-k-eq0.true c.requires.0

pub returns-then-n-k : goal.returns-then-n-k
returns-then-n-k c =
    let a = c.args in
    sym (next-mark a.samples.now a.table.bytes.now a.k c.requires.0.some c.if-n-k.true)

pub invariant_of-sums : goal.invariant_of-sums
invariant_of-sums c =
    let a = c.args in
    let p = c.requires.0 in
    record { fit = sums-from a.samples.now _ a.owns.now (omega arith) p.owns_are a.table.bytes.now (a.k - 1) (omega (arith, c.requires.1)) (omega arith) p.short p.room p.low }

pub returns : goal.returns
returns c =
    let a = c.args in
    next_more a.samples.now a.owns.now a.table.bytes.now a.k _ c.if-k-eq0.false (omega arith) c.requires.0 c.least.ensures
