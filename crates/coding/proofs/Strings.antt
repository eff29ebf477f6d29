-- One byte string, of which a call looks at the first c items at most: the items that are read of it, what it holds when items were
-- written over its front, and that whole items give their bytes back. With and without signs.
use mathlib.Core.Path.{◌≡◌, refl, ap, sym, ◌∙◌}
use mathlib.Core.Logic.{⊎_elim}
use mathlib.Core.List.{List, [], ◌∷◌, ◌++◌, map}
use Prim.Native.Nat.{ℕ, zero, suc, ◌*◌, ◌/◌, ◌%◌, ◌≤◌, ◌<◌, min}
use native.Mathlib.Nat.{div-add-mod', mul_comm}
use native.Mathlib.Omega.{arith}
use lib.IntN.{ℤ}
use lib.ListN.{length, get_or, take, drop, replicate, drop_of_length-le, length-replicate}
use lib.Seq.{take_all, length-take-le}
use mir.Syntax.{w8}
use mir.Val.{Fits}
use Rattle.layout.specs.Items.{Bytes, items_to, items_of, bytes_of, signed_of, unsigned_of}
use Rattle.layout.proofs.ItemLists.{Below, length-items, take-items, bytes-append, bytes_rest, bytes_back, items-low}
use Rattle.layout.specs.Signs.{unsigned_signed}
use Rattle.path.proofs.Cuts.{le-or-lt}

-- What a lent slice is known to hold are bytes.
pub bytes-held : (b : List ℕ) → ((i : ℕ) → Fits w8 (get_or b i 0)) → Bytes b
bytes-held b f i = omega (arith, f i)

-- A string with no byte left over is as long as its items.
whole_length : (k : ℕ) (b : List ℕ) → length b % k ≡ 0 → length b ≡ k * (length b / k)
whole_length k b h = omega (arith, div-add-mod' (length b) k, mul_comm k (length b / k))

-- Whole items give their bytes back.
pub items_back : (k : ℕ) (b : List ℕ) → Bytes b → length b % k ≡ 0 → bytes_of k (items_of k b) ≡ b
items_back k b bytes whole = bytes_back k b (length b / k) bytes (whole_length k b whole)

module _ (k c : ℕ) (b : List ℕ) where
  -- As many items as the string has, and c at most.
  pub items-read : (n : ℕ) → n ≡ min (length b / k) c → items_to k b n ≡ take c (items_of k b)
  items-read n e =
      ⊎_elim
      (λ (h : c ≤ length b / k). let f : n ≡ c = omega arith in ap (items_to k b) f ∙ sym (take-items k b c (length b / k) h))
      (λ (h : length b / k < c). let f : n ≡ length b / k = omega arith in ap (items_to k b) f ∙ sym (take_all c (items_of k b) (omega (arith, length-items k b (length b / k)))))
      (le-or-lt c (length b / k))

  module _ (bytes : Bytes b) (whole : length b % k ≡ 0) where
    -- The bytes of the items after those.
    items-rest : (n : ℕ) → n ≡ min (length b / k) c → drop (k * n) b ≡ bytes_of k (drop c (items_of k b))
    unfolding bytes_of
    items-rest n e =
        let long = whole_length k b whole in
        ⊎_elim
        (λ (h : c ≤ length b / k). let f : n ≡ c = omega arith in ap (λ (j : ℕ). drop (k * j) b) f ∙ sym (bytes_rest k b (length b / k) c bytes long h))
        (λ (h : length b / k < c). let f : n ≡ length b / k = omega arith in
        ap (λ (j : ℕ). drop (k * j) b) f
        ∙ drop_of_length-le b {i = k * (length b / k)} (omega arith)
        ∙ ap (bytes_of k) (sym (drop_of_length-le (items_of k b) {i = c} (omega (arith, length-items k b (length b / k))))))
        (le-or-lt c (length b / k))

    -- Items over the front of a string are the bytes of these items and of those after.
    pub items-joined : (xs : List ℕ) (n : ℕ) → n ≡ min (length b / k) c → bytes_of k xs ++ drop (k * n) b ≡ bytes_of k (xs ++ drop c (items_of k b))
    items-joined xs n e = ap (λ (r : List ℕ). bytes_of k xs ++ r) (items-rest n e) ∙ sym (bytes-append k xs (drop c (items_of k b)))

module _ {A B : Type 0} (f : A → B) where
  map-take : (c : ℕ) (xs : List A) → take c (map f xs) ≡ map f (take c xs)
  map-take zero xs = refl
  map-take (suc c) [] = refl
  map-take (suc c) (x ∷ xs) = ap (λ r. f x ∷ r) (map-take c xs)

  map-drop : (c : ℕ) (xs : List A) → drop c (map f xs) ≡ map f (drop c xs)
  map-drop zero xs = refl
  map-drop (suc c) [] = refl
  map-drop (suc c) (x ∷ xs) = map-drop c xs

  map-append : (xs ys : List A) → map f (xs ++ ys) ≡ map f xs ++ map f ys
  map-append [] ys = refl
  map-append (x ∷ xs) ys = ap (λ r. f x ∷ r) (map-append xs ys)

-- Numbers of 16 bits, read with a sign and written again.
signs-back : (xs : List ℕ) → Below 65536 xs → map unsigned_of (map signed_of xs) ≡ xs
signs-back [] b = refl
signs-back (x ∷ xs) b = λ i. unsigned_signed x (b 0 (omega arith)) i ∷ signs-back xs (λ j h. b (suc j) (omega arith)) i

module _ (b : List ℕ) (bytes : Bytes b) where
  same-items : map unsigned_of (map signed_of (items_of 2 b)) ≡ items_of 2 b
  same-items = signs-back (items_of 2 b) (items-low 2 b (length b / 2) bytes)

  -- So are whole signed items.
  pub signeds-back : length b % 2 ≡ 0 → bytes_of 2 (map unsigned_of (map signed_of (items_of 2 b))) ≡ b
  signeds-back whole = ap (bytes_of 2) same-items ∙ items_back 2 b bytes whole

-- The same of signed items that are read and written.
module _ (c : ℕ) (b : List ℕ) where
  pub signeds-read : (n : ℕ) → n ≡ min (length b / 2) c → map signed_of (items_to 2 b n) ≡ take c (map signed_of (items_of 2 b))
  signeds-read n e = ap (map signed_of) (items-read 2 c b n e) ∙ sym (map-take signed_of c (items_of 2 b))

  module _ (bytes : Bytes b) (whole : length b % 2 ≡ 0) where
    pub signeds-joined : (xs : List ℤ) (n : ℕ) → n ≡ min (length b / 2) c
        → bytes_of 2 (map unsigned_of xs) ++ drop (2 * n) b ≡ bytes_of 2 (map unsigned_of (xs ++ drop c (map signed_of (items_of 2 b))))
    signeds-joined xs n e =
        let signs = map signed_of (items_of 2 b) in
        let rest : drop c (items_of 2 b) ≡ map unsigned_of (drop c signs) = ap (drop c) (sym (same-items b bytes)) ∙ map-drop unsigned_of c signs in
        items-joined 2 c b bytes whole (map unsigned_of xs) n e
        ∙ ap (bytes_of 2) (ap (λ (r : List ℕ). map unsigned_of xs ++ r) rest ∙ sym (map-append unsigned_of xs (drop c signs)))

-- The front of a list that is made of one value.
pub front_length : {A : Type 0} (z : A) (n a : ℕ) → a ≤ n → length (take a (replicate n z)) ≡ a
front_length z n a h = length-take-le a (replicate n z) (omega (arith, length-replicate n z))

-- A front of it that is as long as there are items to look at, c at most.
pub front_fits : {A : Type 0} (z : A) (n m c : ℕ) {a k : ℕ} → a ≡ min m k → k ≡ c → c ≤ n → length (take a (replicate n z)) ≡ min m c
front_fits z n m c {a} {k} e f h = front_length z n a (omega arith) ∙ e ∙ ap (min m) f
