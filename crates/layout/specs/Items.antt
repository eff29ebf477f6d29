-- Byte strings as lists of items of k bytes each, low byte first: which items a string has, and which bytes a list of items takes.
-- A sample or a level is an item of two bytes in two's complement.
use Rattle.std.specs.Prelude.{Bool, cond, List, [], ◌∷◌, ◌++◌, ℕ, zero, suc, ◌*◌, ◌-◌, ◌/◌, ◌%◌, ◌<◌, eqb, ltb, ℤ, pos, negsuc, length, get_or}
use Rattle.layout.specs.Item.{item}

-- Every element of a list is a byte, as in every string of bytes.
abbrev pub Bytes : List ℕ → Type 0
Bytes bytes = (i : ℕ) → get_or bytes i 0 < 256

-- The first n items of a byte string.
unfoldable pub items_to : ℕ → List ℕ → ℕ → List ℕ
items_to k bytes zero = []
items_to k bytes (suc n) = items_to k bytes n ++ (item k bytes (k * n) ∷ [])

-- All items of a byte string.
abbrev pub items_of : ℕ → List ℕ → List ℕ
items_of k bytes = items_to k bytes (length bytes / k)

-- A byte string consists of whole items.
abbrev pub whole_items : ℕ → List ℕ → Bool
whole_items k bytes = eqb (length bytes % k) 0

-- The k bytes of a number, low byte first.
unfoldable pub item_bytes : ℕ → ℕ → List ℕ
item_bytes zero v = []
item_bytes (suc k) v = v % 256 ∷ item_bytes k (v / 256)

-- The bytes of a list of items.
unfoldable pub bytes_of : ℕ → List ℕ → List ℕ
bytes_of k [] = []
bytes_of k (v ∷ vs) = item_bytes k v ++ bytes_of k vs

-- The whole number that an item of two bytes stands for in two's complement.
unfoldable pub signed_of : ℕ → ℤ
signed_of v = cond (ltb v 32768) (pos v) (negsuc (65535 - v))

-- The item of two bytes that stands for a whole number in two's complement.
unfoldable pub unsigned_of : ℤ → ℕ
unsigned_of (pos n) = n
unsigned_of (negsuc n) = 65535 - n
