-- `stream::last_segment` meets its contract: the losses of all last segments that end at `to`, the least sum, and the first start with it.
use Prim.Native.Nat.{◌-◌}
use native.Mathlib.Omega.{arith}
use Rattle.stream.proofs.Starts.{sums-from, one-segment, found-segment}
use Rattle.std.proofs.Common.{rules}
use Rattle.stream.proofs.last_segment.Goals as goal

pub tail_losses-requires : goal.tail_losses-requires
tail_losses-requires c = record { short = c.requires.short; within = c.requires.within; room = omega (arith, c.requires.short, c.requires.within) }

pub returns-then-k-eq0 : goal.returns-then-k-eq0
returns-then-k-eq0 c =
    let a = c.args in
    one-segment a.samples.now a.to _ c.requires.within c.tail_losses.ensures a.table.bytes.now a.k (omega (arith, c.requires.some)) c.if-k-eq0.true

pub invariant_of-sums : goal.invariant_of-sums
invariant_of-sums c =
    let a = c.args in
    record {
      fit = sums-from a.samples.now a.to _ c.requires.within c.tail_losses.ensures a.table.bytes.now (a.k - 1) (omega (arith, c.requires.few)) (omega (arith, c.requires.some))
          (omega (arith, c.requires.within, c.requires.short)) (search rules) c.requires.low;
    }

pub offset_bounds-owns-start : goal.offset_bounds-owns-start
offset_bounds-owns-start c = omega (arith, c.first_start-start.ensures.below, c.requires.within, c.requires.short)

pub bounds-owns-start : goal.bounds-owns-start
bounds-owns-start c = omega (arith, c.first_start-start.ensures.below, c.requires.within, c.requires.short)

pub returns : goal.returns
returns c =
    let a = c.args in
    found-segment a.samples.now a.to _ c.requires.within
    c.tail_losses.ensures a.table.bytes.now a.k c.if-k-eq0.false
    c.requires.some _ _ c.least.ensures c.first_start-start.ensures
