-- `stream::Sums::by_eights` meets its contract. The invariant: the best sum is the least of those of the starts from i on.
use mathlib.Core.Path.{refl}
use Prim.Native.Nat.{◌-◌}
use Rattle.stream.proofs.Starts.{best-start, best-eight}
use Rattle.stream.proofs.sums.Sums.by_eights.Goals as goal

pub loop-i-init : goal.loop-i-init
loop-i-init c =
    let s = c.args.self in
    rw c.sum_at-best.ensures (best-start s.table.bytes.now s.owns.now s.k s.to s.fit (s.to - 1) refl)

pub loop-i-preserved : goal.loop-i-preserved
loop-i-preserved c =
    let s = c.args.self in
    rw (c.min-best.ensures, c.min.ensures, c.least_of_four-near.ensures, c.least_of_four-far.ensures)
    (best-eight s.table.bytes.now s.owns.now s.k s.to s.fit c.loop-i.i c.loop-i.best c.loop-i.invariant c.loop-i-test.true)

pub returns : goal.returns
returns c = c.loop-i.invariant
