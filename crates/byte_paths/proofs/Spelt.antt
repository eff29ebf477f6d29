-- Breakpoints written as items of k bytes over the front of a string, one after the other.
use mathlib.Core.Path.{◌≡◌, refl, ap, sym, ◌∙◌}
use mathlib.Core.List.{List}
use Prim.Native.Nat.{ℕ, suc, ◌+◌, ◌*◌, ◌%◌, ◌≤◌, ◌<◌}
use native.Mathlib.Nat.{mul-suc, mul-le-mul_left}
use native.Mathlib.Omega.{arith}
use lib.ListN.{length}
use Rattle.layout.specs.Item.{set_item}
use Rattle.layout.specs.Items.{Bytes, items_of, bytes_of}
use Rattle.layout.proofs.Laws.{length-set_item}
use Rattle.layout.proofs.ItemLists.{length-bytes, set-item}
use Rattle.coding.proofs.Strings.{items_back}
use Rattle.path.specs.Model.{lists, model_at, path_of, values_of}
use Rattle.path.specs.Update.{Fraction, breakpoint, path_breakpoints}
use Rattle.path.specs.Buffer.{overwritten}
use Rattle.select.proofs.Listings.{written_none, written_step, written-long}
use Rattle.byte_paths.specs.Inner.{WrittenIn}

module _ (k : ℕ) (field : Fraction → ℕ) (losses weights b₀ : List ℕ) (whole : length b₀ % k ≡ 0) (bytes : Bytes b₀) where
  back : bytes_of k (items_of k b₀) ≡ b₀
  back = items_back k b₀ bytes whole

  -- An item of the string lies within it.
  pub spelt-inside : (i : ℕ) → i < length (items_of k b₀) → k * i + k ≤ length b₀
  spelt-inside i h =
      let n = length (items_of k b₀) in
      let long : length b₀ ≡ k * n = ap length (sym back) ∙ length-bytes k (items_of k b₀) in
      omega (arith, long, mul-suc k i, mul-le-mul_left {m = suc i} {n = n} k h)

  pub spelt-none : WrittenIn k field losses weights b₀ b₀ 0
  spelt-none = record { long = refl; is = λ s. sym back ∙ ap (bytes_of k) ((written_none field (items_of 8 losses) (items_of 2 weights) (items_of k b₀)).is s) }

  pub spelt-more : (b : List ℕ) (i : ℕ) → WrittenIn k field losses weights b₀ b i → i < length (items_of k b₀)
      → (x : ℕ) → ((s : List ℕ) → x ≡ field (breakpoint (model_at (lists s (items_of 8 losses) (items_of 2 weights)) i) (model_at (lists s (items_of 8 losses) (items_of 2 weights)) (i + 1))))
      → WrittenIn k field losses weights b₀ (set_item k b (k * i) x) (i + 1)
  spelt-more b i h inside x e =
      record {
        long = length-set_item k b (k * i) x ∙ h.long;
        is = λ s.
            let t = lists s (items_of 8 losses) (items_of 2 weights) in
            let front = overwritten (values_of field (path_breakpoints (path_of t (suc i)))) (items_of k b₀) in
            ap (λ (y : List ℕ). set_item k y (k * i) x) (h.is s)
            ∙ set-item k front i x (omega (arith, written-long field t (items_of k b₀) i (omega arith)))
            ∙ ap (bytes_of k) (written_step field t (items_of k b₀) i x inside (e s));
      }
