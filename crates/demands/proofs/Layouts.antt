-- The layouts are as written out. Items are read off a string one by one; the rest is by the definitions.
use mathlib.Core.Path.{◌≡◌, refl, ap, ◌∙◌}
use mathlib.Core.List.{List, [], ◌∷◌, ◌++◌}
use Prim.Native.Nat.{ℕ, zero, suc, ◌+◌, ◌*◌, ◌-◌, ◌/◌, ◌%◌, ◌≤◌, ◌<◌}
use native.Mathlib.Nat.{add-zero}
use native.Mathlib.Numerals.{unary_clauses}
use native.Mathlib.Omega.{arith}
use borrow.Author.Tests.{lt-ltb, le-ltb}
use lib.IntN.{pos, neg_ℤ}
use lib.ListN.{length}
use Rattle.layout.specs.Item.{item}
use Rattle.layout.specs.Items.{items_to, items_of, item_bytes, bytes_of, signed_of, unsigned_of}
use Rattle.stream.specs.Table.{value}
use Rattle.demands.specs.Layouts.{of_eight, ItemsLayout, SignLayout, TableLayout, LayoutClaims}

-- Where every item of s is the next one of t, the items of t are its first and those of s.
first-item : (k : ℕ) (t s : List ℕ) → ((n : ℕ) → item k t (k * suc n) ≡ item k s (k * n)) → (n : ℕ)
    → items_to k t (suc n) ≡ item k t (k * 0) ∷ items_to k s n
unfolding items_to
first-item k t s next zero = refl
first-item k t s next (suc n) = rw (next n) (ap (λ (r : List ℕ). r ++ (item k s (k * n) ∷ [])) (first-item k t s next n))

-- A string that is too short for an item has none.
no_item : (k : ℕ) (s : List ℕ) → length s / k ≡ 0 → items_of k s ≡ []
unfolding items_to
no_item k s e = ap (items_to k s) e

-- The first two bytes are an item.
two : (a b : ℕ) (s : List ℕ) → items_of 2 (a ∷ b ∷ s) ≡ (a + 256 * b) ∷ items_of 2 s
unfolding item
two a b s =
    let t = a ∷ b ∷ s in
    let count : length t / 2 ≡ suc (length s / 2) = omega arith in
    let place : (n : ℕ) → 2 * suc n ≡ suc (suc (2 * n)) = λ n. omega arith in
    ap (items_to 2 t) count ∙ first-item 2 t s (λ n. ap (item 2 t) (place n)) (length s / 2)
    ∙ ap (λ (x : ℕ). (a + 256 * x) ∷ items_of 2 s) (add-zero b)

-- So are the first eight.
eight : (a b c d e f g h : ℕ) (s : List ℕ) → items_of 8 (a ∷ b ∷ c ∷ d ∷ e ∷ f ∷ g ∷ h ∷ s) ≡ of_eight a b c d e f g h ∷ items_of 8 s
unfolding item
eight a b c d e f g h s =
    let t = a ∷ b ∷ c ∷ d ∷ e ∷ f ∷ g ∷ h ∷ s in
    let count : length t / 8 ≡ suc (length s / 8) = omega arith in
    let place : (n : ℕ) → 8 * suc n ≡ suc (suc (suc (suc (suc (suc (suc (suc (8 * n)))))))) = λ n. omega arith in
    ap (items_to 8 t) count ∙ first-item 8 t s (λ n. ap (item 8 t) (place n)) (length s / 8)
    ∙ ap (λ (x : ℕ). of_eight a b c d e f g x ∷ items_of 8 s) (add-zero h)

-- A number's bytes begin with the lowest.
low_first : (k a v : ℕ) → a < 256 → item_bytes (suc k) (a + 256 * v) ≡ a ∷ item_bytes k v
unfolding item_bytes
low_first k a v h =
    let low : (a + 256 * v) % 256 ≡ a = omega arith in
    let high : (a + 256 * v) / 256 ≡ v = omega arith in
    rw (low, high)

-- The one byte of a number below 256.
last_byte : (b : ℕ) → b < 256 → item_bytes 1 b ≡ b ∷ []
unfolding item_bytes
last_byte b h =
    let low : b % 256 ≡ b = omega arith in
    rw low

-- The two bytes of an item.
two_back : (a b : ℕ) (s : List ℕ) → a < 256 → b < 256 → bytes_of 2 ((a + 256 * b) ∷ s) ≡ a ∷ b ∷ bytes_of 2 s
unfolding bytes_of
two_back a b s ha hb =
    let all : item_bytes 2 (a + 256 * b) ≡ a ∷ b ∷ [] = rw (low_first 1 a b ha, last_byte b hb) in
    ap (λ (r : List ℕ). r ++ bytes_of 2 s) all

-- The eight bytes of one.
eight_back : (a b c d e f g h : ℕ) (s : List ℕ)
    → a < 256 → b < 256 → c < 256 → d < 256 → e < 256 → f < 256 → g < 256 → h < 256
    → bytes_of 8 (of_eight a b c d e f g h ∷ s) ≡ a ∷ b ∷ c ∷ d ∷ e ∷ f ∷ g ∷ h ∷ bytes_of 8 s
unfolding bytes_of
eight_back a b c d e f g h s ha hb hc hd he hf hg hh =
    let from-g = g + 256 * h in
    let from-f = f + 256 * from-g in
    let from-e = e + 256 * from-f in
    let from-d = d + 256 * from-e in
    let from-c = c + 256 * from-d in
    let from-b = b + 256 * from-c in
    let all : item_bytes 8 (of_eight a b c d e f g h) ≡ a ∷ b ∷ c ∷ d ∷ e ∷ f ∷ g ∷ h ∷ [] =
    rw (low_first 7 a from-b ha, low_first 6 b from-c hb, low_first 5 c from-d hc, low_first 4 d from-e hd, low_first 3 e from-f he, low_first 2 f from-g hf, low_first 1 g h hg, last_byte h hh) in
    ap (λ (r : List ℕ). r ++ bytes_of 8 s) all

items-layout : ItemsLayout
unfolding bytes_of
items-layout =
    record {
      bytes_held = λ s b. b;
      two = two;
      less_than_two = λ s h. no_item 2 s (omega arith);
      eight = eight;
      less_than_eight = λ s h. no_item 8 s (omega arith);
      no_bytes = λ k. refl;
      two_back = two_back;
      eight_back = eight_back;
    }

-- An item with its highest bit set is negative.
negative : (v : ℕ) → 32768 ≤ v → v < 65536 → signed_of v ≡ neg_ℤ (pos (65536 - v))
unfolding signed_of
negative v h l =
    let e : 65536 - v ≡ suc (65535 - v) = omega arith in
    rw (le-ltb v 32768 h, e)

-- The item of a negative number.
negative_back : (v : ℕ) → 0 < v → v < 65536 → unsigned_of (neg_ℤ (pos v)) ≡ 65536 - v
unfolding unsigned_of
negative_back zero h l = elim h [ ]
negative_back (suc v) h l = omega arith

sign-layout : SignLayout
unfolding signed_of unsigned_of
sign-layout =
    record {
      not_negative = λ v h. rw (lt-ltb v 32768 h);
      negative = negative;
      not_negative_back = λ v. refl;
      negative_back = negative_back;
    }

-- A value of the table is its eight bytes.
table-layout : TableLayout
unfolding value item
table-layout t k j = simp unary_clauses refl

pub layout-claims : LayoutClaims
layout-claims =
    record {
      items = items-layout;
      sign = sign-layout;
      unsigned = λ k. record { held = λ s b. b; spare = λ s. refl; numbers = λ s. refl; bytes = λ x. refl };
      signed = record { held = λ s b. b; spare = λ s. refl; numbers = λ s. refl; bytes = λ x. refl };
      models = record { held = λ s a b c. (a, (b, c)); spare = λ s. refl; numbers = λ s. refl; bytes = λ x. refl };
      fractions = record { held = λ s a b. (a, b); spare = λ s. refl; numbers = λ s. refl; bytes = λ x. refl };
      signal = record { held = λ s a b. (a, b); spare = λ s. refl; numbers = λ s. refl; bytes = λ x. refl };
      path = record { held = λ s a. (a, tt); spare = λ s. omega arith; numbers = λ s. refl; bytes = λ x. refl };
      split = record { held = λ s a b c. (a, (b, c)); spare = λ s. refl; numbers = λ s. refl; bytes = λ x. refl };
      stream = record { held = λ s a. (tt, a); spare = λ s. omega arith; numbers = λ s. refl; bytes = λ x. refl };
      segments = record { held = λ s a b. (a, b); spare = λ s. refl; numbers = λ s. refl; bytes = λ x. refl };
      entries = record { no-entry = refl; entry = λ e es. refl };
      table = table-layout;
    }
