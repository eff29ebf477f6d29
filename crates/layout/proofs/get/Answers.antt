use mathlib.Core.Path.{◌≡◌, refl, sym, ◌∙◌, ap, subst}
use mathlib.Core.List.{List}
use Prim.Native.Nat.{ℕ, suc, ◌+◌, ◌*◌, ◌-◌, ◌^◌, ◌≤◌, ◌<◌}
use native.Mathlib.Nat.{pow-le-pow_right, pow-suc, le_trans}
use native.Mathlib.Omega.{arith}
use lib.ListN.{get_or}
use Rattle.layout.specs.Item.{item}
use Rattle.layout.proofs.get.Invariants.{Read}
use Rattle.layout.proofs.get.Goals as goal

small : (k i r : ℕ) → k ≤ 8 → 0 < i → r < 256 ^ (k - i) → r < 72057594037927936
small k i r h p l = le_trans l (pow-le-pow_right {n = 256} (omega arith) {i = k - i} {j = 7} (omega arith))

read_step : (w : List ℕ) (at k i r : ℕ) → Read w at k i r → 0 < i → get_or w (at + (i - 1)) 0 < 256 → Read w at k (i - 1) (r * 256 + get_or w (at + (i - 1)) 0)
unfolding item
read_step w at k i r s p b =
    let e : k - (i - 1) ≡ suc (k - i) = omega (arith, s.high) in
    let f : suc (at + (i - 1)) ≡ at + i = omega arith in
    let v : r * 256 + get_or w (at + (i - 1)) 0 ≡ item (k - (i - 1)) w (at + (i - 1)) =
    subst (λ (n : ℕ). r * 256 + get_or w (at + (i - 1)) 0 ≡ item n w (at + (i - 1))) (sym e)
    (omega (arith, s.is, ap (item (k - i) w) f)) in
    record {
      high = omega (arith, s.high);
      is = v;
      low = subst (λ (n : ℕ). r * 256 + get_or w (at + (i - 1)) 0 < 256 ^ n) (sym e) (omega (arith, s.low, pow-suc 256 (k - i)));
    }

read-start : (w : List ℕ) (at k : ℕ) → Read w at k k 0
unfolding item
read-start w at k =
    let e : k - k ≡ 0 = omega arith in
    record { high = omega arith; is = subst (λ (n : ℕ). 0 ≡ item n w (at + k)) (sym e) refl; low = subst (λ (n : ℕ). 0 < 256 ^ n) (sym e) (omega arith) }

read-end : (w : List ℕ) (at k i r : ℕ) → Read w at k i r → i ≤ 0 → r ≡ item k w at
read-end w at k i r s h =
    let e : k - i ≡ k = omega arith in
    let f : at + i ≡ at = omega arith in
    s.is ∙ ap (λ (n : ℕ). item n w (at + i)) e ∙ ap (item k w) f

pub loop-i-init : goal.loop-i-init
loop-i-init c = read-start c.args.bytes.now c.args.at c.args.width

pub overflow_mul-value : goal.overflow_mul-value
overflow_mul-value c = record { fits = omega (arith, small c.args.width c.loop-i.i c.loop-i.value (omega arith) (omega arith) c.loop-i.invariant.low) }

pub overflow_add-value : goal.overflow_add-value
overflow_add-value c = record { fits = omega (arith, c.from.ensures, c.type_inv.bytes (c.args.at + (c.loop-i.i - 1)), small c.args.width c.loop-i.i c.loop-i.value (omega arith) (omega arith) c.loop-i.invariant.low) }

pub loop-i-preserved : goal.loop-i-preserved
loop-i-preserved c =
    let a = c.args in
    let l = c.loop-i in
    rw c.from.ensures (read_step a.bytes.now a.at a.width l.i l.value l.invariant (omega arith) (omega (arith, c.type_inv.bytes (a.at + (l.i - 1)))))

pub returns : goal.returns
returns c = let a = c.args in let l = c.loop-i in read-end a.bytes.now a.at a.width l.i l.value l.invariant (omega arith)
