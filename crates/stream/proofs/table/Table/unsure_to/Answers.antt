-- `stream::Table::unsure_to` meets its contract. The invariant: no value passed, in either half, exceeds the bits gathered.
use mathlib.Core.Path.{refl}
use Prim.Native.Nat.{◌+◌, ◌-◌, ◌/◌}
use native.Mathlib.Omega.{arith}
use lib.Bits.{bit_or}
use Rattle.stream.proofs.Due.{or_most, gathered-start, gathered_next, gathered-done, all-unsure}
use Rattle.stream.proofs.table.Table.unsure_to.Goals as goal

pub loop-j-init : goal.loop-j-init
loop-j-init c =
    let a = c.args in
    (gathered-start a.self.bytes.now a.k c.min-marks.result 0, gathered-start a.self.bytes.now a.k (c.min-marks.result + (a.n - c.min-marks.result) / 2) 0)

pub loop-j-preserved : goal.loop-j-preserved
loop-j-preserved c =
    let a = c.args in
    let t = a.self.bytes.now in
    let m = c.min-marks.result in
    let half = (a.n - m) / 2 in
    let j = c.loop-j.j in
    let bits = c.loop-j.bits in
    let v = c.value_at.result in
    let w = c.value_at-in-loop-j.result in
    let or = bit_or v w in (
      gathered_next t a.k m j (j + 1) bits (bit_or bits or) v refl c.loop-j.invariant.0 c.value_at.ensures (or_most bits or).0 (omega (arith, (or_most bits or).1, (or_most v w).0)),
      gathered_next t a.k (m + half) (j + half) (j + 1 + half) bits (bit_or bits or) w (omega arith) c.loop-j.invariant.1 c.value_at-in-loop-j.ensures (or_most bits or).0 (omega (arith, (or_most bits or).1, (or_most v w).1)),
    )

pub returns-then-bits-le-MAX_LOSS : goal.returns-then-bits-le-MAX_LOSS
returns-then-bits-le-MAX_LOSS c =
    let a = c.args in
    let m = c.min-marks.result in
    gathered-done a.self.bytes.now a.k a.n m ((a.n - m) / 2) c.loop-j.j c.loop-j.bits (omega arith) (omega arith) (omega arith) c.loop-j.invariant.0 c.loop-j.invariant.1 c.if-bits-le-MAX_LOSS.true

pub returns-else-bits-le-MAX_LOSS : goal.returns-else-bits-le-MAX_LOSS
returns-else-bits-le-MAX_LOSS c = all-unsure c.args.self.bytes.now c.args.k c.args.n
