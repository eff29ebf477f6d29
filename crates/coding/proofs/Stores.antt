-- An item stored in a string of items, and zeros after it.
use mathlib.Core.Path.{◌≡◌, refl, ap, sym, ◌∙◌}
use mathlib.Core.List.{List, [], ◌∷◌, ◌++◌, append_assoc}
use Prim.Native.Nat.{ℕ, zero, suc, ◌+◌, ◌*◌, ◌-◌, ◌≤◌, ◌<◌, max}
use native.Mathlib.Nat.{mul-suc, mul-zero, mul-le-mul_left, mul-sub}
use native.Mathlib.Numerals.{add-one}
use native.Mathlib.Omega.{arith}
use lib.ListN.{length, set, take, drop, replicate, length-set, length-append}
use mathlib.Core.Logic.{⊎_elim}
use lib.Seq.{drop-drop, length-take-le, take-suc-set, drop-set-lt}
use Rattle.layout.specs.Item.{set_item}
use Rattle.layout.specs.Items.{Bytes, items_of, item_bytes, bytes_of}
use Rattle.std.proofs.lemmas.List.{replicate-append-replicate}
use borrow.Rule.Slice.PartMut.{put_mid}
use Rattle.layout.proofs.ItemLists.{length-bytes, front-bytes, rest-bytes, bytes-append, set-item}
use Rattle.path.specs.Buffer.{overwritten_to}
use Rattle.path.proofs.Cuts.{le-or-lt}
use Rattle.path.proofs.Buffers.{length-zeros}
use Rattle.coding.specs.Inner.{Storable}
use Rattle.coding.proofs.Strings.{items_back}

-- The bytes of zeros are zeros.
bytes_zero : (k : ℕ) → item_bytes k 0 ≡ replicate k 0
unfolding item_bytes
bytes_zero zero = refl
bytes_zero (suc k) = ap (λ (r : List ℕ). 0 ∷ r) (bytes_zero k)

bytes_zeros : (k n : ℕ) → bytes_of k (replicate n 0) ≡ replicate (k * n) 0
unfolding bytes_of
bytes_zeros k zero = rw mul-zero refl
bytes_zeros k (suc n) =
    (λ i. bytes_zero k i ++ bytes_zeros k n i) ∙ replicate-append-replicate k (k * n) 0 ∙ ap (λ (m : ℕ). replicate m 0) (omega (arith, mul-suc k n))

max-times : (k a b : ℕ) → max (k * a) (k * b) ≡ k * max a b
max-times k a b =
    ⊎_elim
    (λ (h : a ≤ b). let same : max a b ≡ b = omega arith in let l = mul-le-mul_left {m = a} {n = b} k h in rw same (omega arith))
    (λ (h : b < a). let same : max a b ≡ a = omega arith in let l = mul-le-mul_left {m = b} {n = a} k (omega arith) in rw same (omega arith))
    (le-or-lt a b)

module _ (k : ℕ) (b₀ : List ℕ) (kept n v : ℕ) (h : Storable k b₀ kept n) (bytes : Bytes b₀) where
  abbrev items : List ℕ
  items = items_of k b₀

  back : bytes_of k items ≡ b₀
  back = items_back k b₀ bytes h.whole

  whole_long : length b₀ ≡ k * length items
  whole_long = ap length (sym back) ∙ length-bytes k items

  -- As many items as there are lie within the string.
  pub store-inside : (i : ℕ) → i ≤ length items → k * i ≤ length b₀
  store-inside i p = omega (arith, whole_long, mul-le-mul_left {m = i} {n = length items} k p)

  -- So do the zeros.
  pub store-end : (to : ℕ) → to ≡ max (k * (kept + 1)) (k * n) → to ≤ length b₀
  store-end to e = omega (arith, store-inside (kept + 1) (omega (arith, h.inside)), store-inside n h.room)

  -- The value is put, and zeros are written after it.
  pub stored : (b₁ zeros b : List ℕ) (from to : ℕ) → b₁ ≡ set_item k b₀ (k * kept) v → from ≡ k * (kept + 1) → to ≡ max from (k * n) → zeros ≡ replicate (to - from) 0
      → b ≡ put_mid from (to - from) b₁ zeros → b ≡ bytes_of k (overwritten_to (take kept items ++ (v ∷ [])) n items)
  stored b₁ zeros b from to e e₁ t z p =
      let ys = set items kept v in
      let long : length ys ≡ length items = length-set items kept v in
      let put : b₁ ≡ bytes_of k ys = e ∙ ap (λ (x : List ℕ). set_item k x (k * kept) v) (sym back) ∙ set-item k items kept v h.inside in
      let front : take (kept + 1) ys ≡ take kept items ++ (v ∷ []) = rw (add-one kept) (take-suc-set items kept v h.inside) in
      let f = take kept items ++ (v ∷ []) in
      let f-long : length f ≡ kept + 1 = length-append (take kept items) (v ∷ []) ∙ omega (arith, length-take-le kept items (omega (arith, h.inside))) in
      let rest : List ℕ = replicate (n - length f) 0 in
      let end : ℕ = length (f ++ rest) in
      let last : end ≡ max (kept + 1) n = length-zeros f n ∙ omega arith in
      let to-end : to ≡ k * end = t ∙ ap (λ (m : ℕ). max m (k * n)) e₁ ∙ max-times k (kept + 1) n ∙ ap (λ (m : ℕ). k * m) (sym last) in
      let width : to - from ≡ k * (n - length f) = omega (arith, mul-sub k n (length f), ap (λ (m : ℕ). k * m) f-long) in
      let join : from + (to - from) ≡ k * end = omega arith in
      let first : take from b₁ ≡ bytes_of k f = (λ i. take (e₁ i) (put i)) ∙ front-bytes k ys (kept + 1) (omega (arith, h.inside)) ∙ ap (bytes_of k) front in
      let second : zeros ≡ bytes_of k rest = z ∙ ap (λ (m : ℕ). replicate m 0) width ∙ sym (bytes_zeros k (n - length f)) in
      let third : drop (to - from) (drop from b₁) ≡ bytes_of k (drop end items) =
      drop-drop (to - from) from b₁ ∙ (λ i. drop (join i) (put i)) ∙ rest-bytes k ys end (omega (arith, h.inside, h.room)) ∙ ap (bytes_of k) (drop-set-lt end items kept v (omega arith)) in
      ◌∙◌ {b = bytes_of k f ++ (bytes_of k rest ++ bytes_of k (drop end items))} (p ∙ (λ i. first i ++ (second i ++ third i))) (sym (bytes-append k (f ++ rest) (drop end items) ∙ ap (λ (r : List ℕ). r ++ bytes_of k (drop end items)) (bytes-append k f rest) ∙ append_assoc (bytes_of k f) (bytes_of k rest) (bytes_of k (drop end items))))
