-- `path::store` meets its contract: with places to clear, and with none.
use mathlib.Core.Path.{◌≡◌, ap, ◌∙◌}
use Prim.Native.Nat.{ℕ, ◌+◌, ◌-◌}
use lib.ListN.{length, replicate, set, length-set}
use borrow.Rule.Slice.PartMut.{put_mid, mid_len, mid_of}
use Rattle.path.proofs.Buffers.{store-clears, store-alone}
use native.Mathlib.Omega.{arith}
use Rattle.path.proofs.store.Goals as goal

pub returns-then-end-n : goal.returns-then-end-n
returns-then-end-n c =
    let a = c.args in
    let s = set a.buffer.now a.kept a.value in
    let e = a.kept + 1 in
    let n : length (mid_of e (a.n - e) s) ≡ a.n - e = mid_len e a.n s (simp length-set (omega arith)) in
    ap (put_mid e (a.n - e) s) (c.fill.ensures.after (λ y e. e) ∙ ap (λ (m : ℕ). replicate m 0) n)
    ∙ store-clears a.buffer.now a.kept a.n a.value (omega arith) (omega arith) (omega arith)

pub returns-else-end-n : goal.returns-else-end-n
returns-else-end-n c =
    let a = c.args in
    store-alone a.buffer.now a.kept a.n a.value (omega arith) (omega arith)
