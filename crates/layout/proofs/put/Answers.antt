use mathlib.Core.Path.{◌≡◌, refl, ◌∙◌, ap}
use mathlib.Core.List.{List}
use Prim.Native.Nat.{ℕ, suc, ◌+◌, ◌-◌, ◌/◌, ◌%◌, ◌≤◌, ◌<◌}
use native.Mathlib.Omega.{arith}
use lib.ListN.{set, length-set}
use Rattle.layout.specs.Item.{set_item}
use Rattle.layout.proofs.put.Invariants.{Written}
use Rattle.layout.proofs.put.Goals as goal

write_step : (w₀ w : List ℕ) (at k v i x : ℕ) → Written w₀ w at k v i x → i < k → Written w₀ (set w (at + i) (x % 256)) at k v (i + 1) (x / 256)
unfolding set_item
write_step w₀ w at k v i x s h =
    let e : suc (k - (i + 1)) ≡ k - i = omega arith in
    let f : at + (i + 1) ≡ suc (at + i) = omega arith in
    record {
      high = omega arith;
      len = length-set w (at + i) (x % 256) ∙ s.len;
      is = ap (λ (a : ℕ). set_item (k - (i + 1)) (set w (at + i) (x % 256)) a (x / 256)) f ∙ ap (λ (n : ℕ). set_item n w (at + i) x) e ∙ s.is;
    }

write-start : (w : List ℕ) (at k v : ℕ) → Written w w at k v 0 v
write-start w at k v =
    let e : k - 0 ≡ k = omega arith in
    let f : at + 0 ≡ at = omega arith in
    record { high = omega arith; len = refl; is = (λ i. set_item (e i) w (f i) v) }

write-end : (w₀ w : List ℕ) (at k v i x : ℕ) → Written w₀ w at k v i x → k ≤ i → w ≡ set_item k w₀ at v
unfolding set_item
write-end w₀ w at k v i x s h =
    let e : 0 ≡ k - i = omega arith in ap (λ (n : ℕ). set_item n w (at + i) x) e ∙ s.is

pub loop-i-init : goal.loop-i-init
loop-i-init c = write-start c.args.bytes.now c.args.at c.args.width c.args.value

pub loop-i-preserved : goal.loop-i-preserved
loop-i-preserved c = let a = c.args in let l = c.loop-i in write_step a.bytes.now l.bytes a.at a.width a.value l.i l.rest l.invariant (omega arith)

pub returns : goal.returns
returns c = let a = c.args in let l = c.loop-i in write-end a.bytes.now l.bytes a.at a.width a.value l.i l.rest l.invariant (omega arith)
