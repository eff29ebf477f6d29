-- The laws of lists of items: reading and writing one item more, and that bytes are got back from their items and items from
-- their bytes. All hold for every width.
use mathlib.Core.Path.{◌≡◌, refl, ap, sym, ◌∙◌}
use mathlib.Core.List.{List, [], ◌∷◌, ◌++◌, append_assoc, append-nil, map}
use Prim.Native.Nat.{ℕ, zero, suc, ◌+◌, ◌*◌, ◌-◌, ◌/◌, ◌%◌, ◌^◌, ◌≤◌, ◌<◌}
use native.Mathlib.Nat.{pow-suc, mul-suc, add-suc, add-zero, mul-zero, mul-le-mul_left, mul-div-le}
use native.Mathlib.Omega.{arith}
use lib.ListN.{length, get_or, set, take, drop, length-set, length-append, length-drop, take-append-drop}
use lib.Seq.{drop-cons, take-suc, take_at, drop_at, drop-drop, take-add, take-append-le, take-suc-set, drop-set-lt, take_all, append_snoc, get_or_at, get_or-take, get_or-set_same, take-set-le, get_or-append-add, length-take-le, drop-append-add, ext_get_or}
use borrow.Rule.Slice.PartMut.{put_mid}
use Rattle.layout.specs.Item.{item, set_item}
use Rattle.layout.specs.Items.{Bytes, items_to, items_of, item_bytes, bytes_of}
use Rattle.layout.proofs.Laws.{item-low}
use Rattle.std.proofs.lemmas.List.{map-append}

-- The first n items are n items.
pub length-items : (k : ℕ) (bytes : List ℕ) (n : ℕ) → length (items_to k bytes n) ≡ n
unfolding items_to
length-items k bytes zero = refl
length-items k bytes (suc n) = length-append (items_to k bytes n) (item k bytes (k * n) ∷ []) ∙ omega (arith, length-items k bytes n)

-- The first c items of more.
take_more : (k : ℕ) (bytes : List ℕ) (c d : ℕ) → take c (items_to k bytes (c + d)) ≡ items_to k bytes c
unfolding items_to
take_more k bytes c zero = rw add-zero (take_all c (items_to k bytes c) (omega (arith, length-items k bytes c)))
take_more k bytes c (suc d) =
    rw add-suc (take-append-le c (items_to k bytes (c + d)) (item k bytes (k * (c + d)) ∷ []) (omega (arith, length-items k bytes (c + d))) ∙ take_more k bytes c d)

pub take-items : (k : ℕ) (bytes : List ℕ) (c n : ℕ) → c ≤ n → take c (items_to k bytes n) ≡ items_to k bytes c
take-items k bytes c n h =
    let e : n ≡ c + (n - c) = omega arith in ap (λ (m : ℕ). take c (items_to k bytes m)) e ∙ take_more k bytes c (n - c)

-- The item at place i.
pub item-at : (k : ℕ) (bytes : List ℕ) (n i : ℕ) → i < n → get_or (items_to k bytes n) i 0 ≡ item k bytes (k * i)
unfolding items_to
item-at k bytes n i h =
    sym (get_or-take (suc i) (items_to k bytes n) i 0 (omega arith))
    ∙ ap (λ (xs : List ℕ). get_or xs i 0) (take-items k bytes (suc i) n h)
    ∙ get_or_at (items_to k bytes i) (item k bytes (k * i)) [] 0 i (length-items k bytes i)

-- A number's bytes are k bytes.
length-item_bytes : (k v : ℕ) → length (item_bytes k v) ≡ k
unfolding item_bytes
length-item_bytes zero v = refl
length-item_bytes (suc k) v = ap suc (length-item_bytes k (v / 256))

-- A put is the number's bytes in the place of those that stood there.
put-spells : (k : ℕ) (bytes : List ℕ) (at v : ℕ) → at + k ≤ length bytes → set_item k bytes at v ≡ take at bytes ++ (item_bytes k v ++ drop (at + k) bytes)
unfolding set_item item_bytes
put-spells zero bytes at v h = rw add-zero (sym (take-append-drop at bytes))
put-spells (suc k) bytes at v h =
    let next = set bytes at (v % 256) in
    let e : suc at + k ≡ at + suc k = omega arith in
    put-spells k next (suc at) (v / 256) (omega (arith, length-set bytes at (v % 256)))
    ∙ rw (take-suc-set bytes at (v % 256) (omega arith), drop-set-lt (suc at + k) bytes at (v % 256) (omega arith), e)
    (append_snoc (take at bytes) (v % 256) (item_bytes k (v / 256) ++ drop (at + suc k) bytes))

-- So are these bytes written over a part of the string.
pub put-part : (k : ℕ) (bytes : List ℕ) (at n v : ℕ) (part : List ℕ) → n ≡ k → at + k ≤ length bytes → part ≡ item_bytes k v
    → put_mid at n bytes part ≡ set_item k bytes at v
put-part k bytes at n v part e h p =
    (λ i. take at bytes ++ (p i ++ (ap (λ (m : ℕ). drop m (drop at bytes)) e ∙ drop-drop k at bytes) i)) ∙ sym (put-spells k bytes at v h)

-- The bytes of two lists of items.
pub bytes-append : (k : ℕ) (xs ys : List ℕ) → bytes_of k (xs ++ ys) ≡ bytes_of k xs ++ bytes_of k ys
unfolding bytes_of
bytes-append k [] ys = refl
bytes-append k (x ∷ xs) ys = ap (λ (r : List ℕ). item_bytes k x ++ r) (bytes-append k xs ys) ∙ sym (append_assoc (item_bytes k x) (bytes_of k xs) (bytes_of k ys))

bytes_one : (k v : ℕ) → bytes_of k (v ∷ []) ≡ item_bytes k v
unfolding bytes_of
bytes_one k v = append-nil (item_bytes k v)

pub length-bytes : (k : ℕ) (xs : List ℕ) → length (bytes_of k xs) ≡ k * length xs
unfolding bytes_of
length-bytes k [] = sym (mul-zero k)
length-bytes k (x ∷ xs) =
    length-append (item_bytes k x) (bytes_of k xs) ∙ omega (arith, length-item_bytes k x, length-bytes k xs, mul-suc k (length xs))

-- An item's bytes are got back.
item-bytes-back : (k : ℕ) (bytes : List ℕ) (at : ℕ) → Bytes bytes → at + k ≤ length bytes → item_bytes k (item k bytes at) ≡ take k (drop at bytes)
unfolding item_bytes item
item-bytes-back zero bytes at b h = refl
item-bytes-back (suc k) bytes at b h =
    let x = get_or bytes at 0 in
    let r = item k bytes (suc at) in
    let low : (x + 256 * r) % 256 ≡ x = omega (arith, b at) in
    let high : (x + 256 * r) / 256 ≡ r = omega (arith, b at) in
    rw (low, high, item-bytes-back k bytes (suc at) b (omega arith), drop-cons bytes at 0 (omega arith))

-- The bytes of the first n items are the first k n bytes.
pub bytes-items : (k : ℕ) (bytes : List ℕ) (n : ℕ) → Bytes bytes → k * n ≤ length bytes → bytes_of k (items_to k bytes n) ≡ take (k * n) bytes
unfolding items_to bytes_of
bytes-items k bytes zero b h = rw mul-zero
bytes-items k bytes (suc n) b h =
    let m : k * suc n ≡ k * n + k = mul-suc k n in
    bytes-append k (items_to k bytes n) (item k bytes (k * n) ∷ [])
    ∙ rw (bytes-items k bytes n b (omega arith), bytes_one k (item k bytes (k * n)), item-bytes-back k bytes (k * n) b (omega arith), m) (sym (take-add (k * n) k bytes))

-- The first i items written to the front of a byte string: their bytes, and the rest as it was.
abbrev pub written : ℕ → List ℕ → ℕ → List ℕ → List ℕ
written k items i bytes = bytes_of k (take i items) ++ drop (k * i) bytes

module _ (k : ℕ) (items bytes : List ℕ) where
  length_front : (i : ℕ) → i ≤ length items → length (bytes_of k (take i items)) ≡ k * i
  length_front i h = length-bytes k (take i items) ∙ ap (λ (n : ℕ). k * n) (length-take-le i items h)

  length-written : (i : ℕ) → i ≤ length items → k * i ≤ length bytes → length (written k items i bytes) ≡ length bytes
  length-written i h f =
      length-append (bytes_of k (take i items)) (drop (k * i) bytes) ∙ omega (arith, length_front i h, length-drop (k * i) bytes)

  -- One item more is written.
  write-more : (i : ℕ) → i < length items → k * suc i ≤ length bytes → set_item k (written k items i bytes) (k * i) (get_or items i 0) ≡ written k items (suc i) bytes
  write-more i h f =
      let p = bytes_of k (take i items) in
      let m : k * suc i ≡ k * i + k = mul-suc k i in
      let l : length p ≡ k * i = length_front i (omega arith) in
      let d : drop (k * i + k) (p ++ drop (k * i) bytes) ≡ drop (k * i + k) bytes =
      ap (λ (n : ℕ). drop (n + k) (p ++ drop (k * i) bytes)) (sym l) ∙ drop-append-add p (drop (k * i) bytes) k ∙ drop-drop k (k * i) bytes in
      let t : bytes_of k (take (suc i) items) ≡ p ++ item_bytes k (get_or items i 0) =
      ap (bytes_of k) (take-suc items i 0 h) ∙ bytes-append k (take i items) (get_or items i 0 ∷ []) ∙ ap (λ (r : List ℕ). p ++ r) (bytes_one k (get_or items i 0)) in
      put-spells k (p ++ drop (k * i) bytes) (k * i) (get_or items i 0) (omega (arith, length-written i (omega arith) (omega arith)))
      ∙ rw (take_at p (drop (k * i) bytes) (k * i) l, d, t, m) (sym (append_assoc p (item_bytes k (get_or items i 0)) (drop (k * i + k) bytes)))

-- The bytes of the items from the c-th on are the bytes from the (k c)-th on.
pub bytes_rest : (k : ℕ) (bytes : List ℕ) (n c : ℕ) → Bytes bytes → length bytes ≡ k * n → c ≤ n → bytes_of k (drop c (items_to k bytes n)) ≡ drop (k * c) bytes
bytes_rest k bytes n c b e h =
    let all = items_to k bytes n in
    let low : k * c ≤ k * n = mul-le-mul_left k h in
    let whole : bytes_of k all ≡ bytes = bytes-items k bytes n b (omega arith) ∙ take_all (k * n) bytes (omega arith) in
    let front : bytes_of k (take c all) ≡ take (k * c) bytes = ap (bytes_of k) (take-items k bytes c n h) ∙ bytes-items k bytes c b (omega arith) in
    let parts : bytes ≡ take (k * c) bytes ++ bytes_of k (drop c all) =
    sym whole ∙ ap (bytes_of k) (sym (take-append-drop c all)) ∙ bytes-append k (take c all) (drop c all) ∙ ap (λ (r : List ℕ). r ++ bytes_of k (drop c all)) front in
    sym (ap (drop (k * c)) parts ∙ drop_at (take (k * c) bytes) (bytes_of k (drop c all)) (k * c) (length-take-le (k * c) bytes (omega arith)))

-- Whole items give their bytes back.
pub bytes_back : (k : ℕ) (bytes : List ℕ) (n : ℕ) → Bytes bytes → length bytes ≡ k * n → bytes_of k (items_to k bytes n) ≡ bytes
bytes_back k bytes n b e = bytes-items k bytes n b (omega arith) ∙ take_all (k * n) bytes (omega arith)

-- An item further on in a string.
item-shift : (k : ℕ) (p q : List ℕ) (at : ℕ) → item k (p ++ q) (length p + at) ≡ item k q at
unfolding item
item-shift zero p q at = refl
item-shift (suc k) p q at =
    let e : suc (length p + at) ≡ length p + suc at = omega arith in
    rw (get_or-append-add p q at 0, e, item-shift k p q (suc at))

item-spelled : (k v : ℕ) (rest : List ℕ) → v < 256 ^ k → item k (item_bytes k v ++ rest) 0 ≡ v
unfolding item item_bytes
item-spelled zero v rest h = omega arith
item-spelled (suc k) v rest h =
    let more : item k (v % 256 ∷ (item_bytes k (v / 256) ++ rest)) 1 ≡ item k (item_bytes k (v / 256) ++ rest) 0 = item-shift k (v % 256 ∷ []) (item_bytes k (v / 256) ++ rest) 0 in
    omega (arith, more, item-spelled k (v / 256) rest (omega (arith, pow-suc 256 k)))

-- Every element is below a limit.
abbrev pub Below : ℕ → List ℕ → Type 0
Below limit xs = (i : ℕ) → i < length xs → get_or xs i 0 < limit

item-of-bytes : (k : ℕ) (xs : List ℕ) (i : ℕ) → Below (256 ^ k) xs → i < length xs → item k (bytes_of k xs) (k * i) ≡ get_or xs i 0
unfolding bytes_of
item-of-bytes k [] i b h = elim h [ ]
item-of-bytes k (x ∷ xs) zero b h = rw mul-zero (item-spelled k x (bytes_of k xs) (b 0 h))
item-of-bytes k (x ∷ xs) (suc i) b h =
    let e : k * suc i ≡ length (item_bytes k x) + k * i = omega (arith, mul-suc k i, length-item_bytes k x) in
    rw (e, item-shift k (item_bytes k x) (bytes_of k xs) (k * i)) (item-of-bytes k xs i (λ j l. b (suc j) (omega arith)) (omega arith))

get_or-items : (k : ℕ) (bytes : List ℕ) (n i : ℕ) → i < n → get_or (items_to k bytes n) i 0 ≡ item k bytes (k * i)
unfolding items_to
get_or-items k bytes n i h =
    ap (λ (xs : List ℕ). get_or xs i 0) (sym (take-append-drop (suc i) (items_to k bytes n)) ∙ ap (λ (r : List ℕ). r ++ drop (suc i) (items_to k bytes n)) (take-items k bytes (suc i) n h) ∙ append_assoc (items_to k bytes i) (item k bytes (k * i) ∷ []) (drop (suc i) (items_to k bytes n)))
    ∙ get_or_at (items_to k bytes i) (item k bytes (k * i)) (drop (suc i) (items_to k bytes n)) 0 i (length-items k bytes i)

-- Items that fit are got back from their bytes.
pub items_back : (k : ℕ) (xs : List ℕ) → Below (256 ^ k) xs → items_to k (bytes_of k xs) (length xs) ≡ xs
items_back k xs b =
    ext_get_or 0 (items_to k (bytes_of k xs) (length xs)) xs (length-items k (bytes_of k xs) (length xs))
    (λ i h. let l : i < length xs = omega (arith, length-items k (bytes_of k xs) (length xs)) in get_or-items k (bytes_of k xs) (length xs) i l ∙ item-of-bytes k xs i b l)

-- Items of bytes fit.
pub items-low : (k : ℕ) (bytes : List ℕ) (n : ℕ) → Bytes bytes → Below (256 ^ k) (items_to k bytes n)
items-low k bytes n b i h =
    let l : i < n = omega (arith, length-items k bytes n) in rw (get_or-items k bytes n i l) (item-low k bytes (k * i) b)

-- The bytes of the first i items.
pub front-bytes : (k : ℕ) (xs : List ℕ) (i : ℕ) → i ≤ length xs → take (k * i) (bytes_of k xs) ≡ bytes_of k (take i xs)
front-bytes k xs i h =
    ap (λ (ys : List ℕ). take (k * i) (bytes_of k ys)) (sym (take-append-drop i xs))
    ∙ ap (take (k * i)) (bytes-append k (take i xs) (drop i xs))
    ∙ take_at (bytes_of k (take i xs)) (bytes_of k (drop i xs)) (k * i) (length-bytes k (take i xs) ∙ ap (λ (n : ℕ). k * n) (length-take-le i xs h))

-- The bytes of the items from the i-th on.
pub rest-bytes : (k : ℕ) (xs : List ℕ) (i : ℕ) → i ≤ length xs → drop (k * i) (bytes_of k xs) ≡ bytes_of k (drop i xs)
rest-bytes k xs i h =
    ap (λ (ys : List ℕ). drop (k * i) (bytes_of k ys)) (sym (take-append-drop i xs))
    ∙ ap (drop (k * i)) (bytes-append k (take i xs) (drop i xs))
    ∙ drop_at (bytes_of k (take i xs)) (bytes_of k (drop i xs)) (k * i) (length-bytes k (take i xs) ∙ ap (λ (n : ℕ). k * n) (length-take-le i xs h))

-- An item put among others.
pub set-item : (k : ℕ) (xs : List ℕ) (i v : ℕ) → i < length xs → set_item k (bytes_of k xs) (k * i) v ≡ bytes_of k (set xs i v)
set-item k xs i v h =
    let ys = set xs i v in
    let b = bytes_of k xs in
    let long : length ys ≡ length xs = length-set xs i v in
    let whole : length b ≡ k * length xs = length-bytes k xs in
    let start : written k ys i b ≡ b =
    ap (λ (r : List ℕ). bytes_of k r ++ drop (k * i) b) (take-set-le i xs i v (omega arith))
    ∙ ap (λ (r : List ℕ). bytes_of k (take i xs) ++ r) (rest-bytes k xs i (omega arith))
    ∙ sym (bytes-append k (take i xs) (drop i xs)) ∙ ap (bytes_of k) (take-append-drop i xs) in
    let end : written k ys (suc i) b ≡ bytes_of k ys =
    ap (λ (r : List ℕ). bytes_of k (take (suc i) ys) ++ r) (rest-bytes k xs (suc i) h ∙ ap (bytes_of k) (sym (drop-set-lt (suc i) xs i v (omega arith))))
    ∙ sym (bytes-append k (take (suc i) ys) (drop (suc i) ys)) ∙ ap (bytes_of k) (take-append-drop (suc i) ys) in
    (λ j. set_item k (sym start j) (k * i) (sym (get_or-set_same xs i v 0 h) j))
    ∙ write-more k ys b i (omega arith) (omega (arith, whole, mul-le-mul_left {m = suc i} {n = length xs} k h))
    ∙ end

-- One item more lies within the string.
pub one_more : (k i n m : ℕ) → i < n → k * n ≤ m → k * i + k ≤ m
one_more k i n m h f = omega (arith, mul-suc k i, mul-le-mul_left {m = suc i} {n = n} k h)

-- An item at a place lies within the string.
pub item_inside : (k : ℕ) (bytes : List ℕ) (i : ℕ) → i < length (items_of k bytes) → k * i + k ≤ length bytes
item_inside k bytes i h =
    one_more k i (length bytes / k) (length bytes) (omega (arith, h, length-items k bytes (length bytes / k))) (mul-div-le (length bytes) k)

-- One item more is read, each as what f says it stands for.
pub read-more : {A : Type 0} (f : ℕ → A) (k : ℕ) (bytes : List ℕ) (items : List A) (i : ℕ) (x : A) → i < length items
    → x ≡ f (item k bytes (k * i)) → take i items ≡ map f (items_to k bytes i) → take (suc i) (set items i x) ≡ map f (items_to k bytes (suc i))
unfolding items_to
read-more f k bytes items i x h e r =
    take-suc-set items i x h ∙ (λ j. r j ++ (e j ∷ [])) ∙ sym (map-append f (items_to k bytes i) (item k bytes (k * i) ∷ []))

-- All are read.
pub read-all : {A : Type 0} (f : ℕ → A) (k : ℕ) (bytes : List ℕ) (items : List A) (i n : ℕ) → i ≡ n → length items ≡ n
    → take i items ≡ map f (items_to k bytes i) → items ≡ map f (items_to k bytes n)
read-all f k bytes items i n e l r =
    sym (take_all n items (omega arith)) ∙ ap (λ (m : ℕ). take m items) (sym e) ∙ r ∙ ap (λ (m : ℕ). map f (items_to k bytes m)) e

-- Nothing is written.
pub write-none : (k : ℕ) (items bytes : List ℕ) → bytes ≡ written k items 0 bytes
unfolding bytes_of
write-none k items bytes = rw mul-zero

-- One item more is written, which v spells.
pub write-on : (k : ℕ) (items bytes₀ bytes after : List ℕ) (i v : ℕ) → bytes ≡ written k items i bytes₀ → after ≡ set_item k bytes (k * i) v
    → v ≡ get_or items i 0 → i < length items → k * length items ≤ length bytes₀ → after ≡ written k items (suc i) bytes₀
write-on k items bytes₀ bytes after i v r e f h l =
    e ∙ (λ j. set_item k (r j) (k * i) (f j)) ∙ write-more k items bytes₀ i h (omega (arith, mul-suc k i, one_more k i (length items) (length bytes₀) h l))

-- All are written.
pub write-all : (k : ℕ) (items bytes₀ bytes : List ℕ) (i n : ℕ) → bytes ≡ written k items i bytes₀ → i ≡ n → length items ≡ n
    → bytes ≡ bytes_of k items ++ drop (k * n) bytes₀
write-all k items bytes₀ bytes i n r e l =
    r ∙ ap (λ (m : ℕ). written k items m bytes₀) e ∙ ap (λ (xs : List ℕ). bytes_of k xs ++ drop (k * n) bytes₀) (take_all n items (omega arith))
