-- `stream::Sums::least` meets its contract. The invariant: the best sum is the least of those of the starts from i on.
use Prim.Native.Nat.{◌-◌}
use native.Mathlib.Omega.{arith}
use Rattle.stream.proofs.Starts.{best-next, best-done}
use Rattle.stream.proofs.sums.Sums.least.Goals as goal

pub loop-i-init : goal.loop-i-init
loop-i-init c = c.by_eights-found.ensures

pub loop-i-preserved : goal.loop-i-preserved
loop-i-preserved c =
    let s = c.args.self in
    rw (c.min-best.ensures, c.sum_at.ensures) (best-next s.table.bytes.now s.owns.now s.k s.to s.fit c.loop-i.i c.loop-i.best c.loop-i.invariant (c.loop-i.i - 1) (omega arith) (omega arith))

pub returns : goal.returns
returns c =
    let s = c.args.self in
    best-done s.table.bytes.now s.owns.now s.k s.to s.fit c.loop-i.i c.loop-i.best c.loop-i.invariant (omega arith)
