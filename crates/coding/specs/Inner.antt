-- What the functions that read and write lists together ask for and leave. A reader of the calls need not believe anything that
-- stands here.
use Rattle.std.specs.Prelude.{◌≡◌, List, ◌++◌, map, ℕ, ◌*◌, ◌/◌, ◌%◌, ◌≤◌, ◌<◌, min, ℤ, length, drop}
use Rattle.layout.specs.Items.{items_to, items_of, bytes_of, signed_of, unsigned_of}
use Rattle.path.specs.Model.{Lists, lists}
use Rattle.coding.specs.declared.ByteColumns.{ByteColumns}

-- The strings of models in byte strings.
abbrev pub strings_of : ByteColumns → Lists
strings_of c = lists c.sizes.now c.losses.now c.weights.now

-- What a string holds after a list of items of k bytes was written to its front.
abbrev pub written_to : ℕ → List ℕ → List ℕ → List ℕ
written_to k bytes items = bytes_of k items ++ drop (k * length items) bytes

-- The same of signed items.
abbrev pub written_signed : List ℕ → List ℤ → List ℕ
written_signed bytes items = bytes_of 2 (map unsigned_of items) ++ drop (2 * length items) bytes

-- Two strings have a and b items, of j and of k bytes.
pub record Holds (j k a b : ℕ) (x y : List ℕ) : Type 0 where
  pub first_has : j * a ≤ length x
  pub second_has : k * b ≤ length y

-- Three lists have as many places as there are sizes, losses and weights to look at, n at most of each.
pub record ListsFit (n : ℕ) (x : Lists) (a b c : ℕ) : Type 0 where
  pub sizes_fit : a ≡ min (length x.sizes / 2) n
  pub losses_fit : b ≡ min (length x.losses / 8) n
  pub weights_fit : c ≡ min (length x.weights / 2) n

-- Three strings have a sizes, b losses and c weights.
pub record HoldsModels (a b c : ℕ) (sizes losses weights : List ℕ) : Type 0 where
  pub sizes_have : 2 * a ≤ length sizes
  pub losses_have : 8 * b ≤ length losses
  pub weights_have : 2 * c ≤ length weights

-- The sizes, losses and weights that were read.
pub record ModelsRead (sizes losses weights s l w : List ℕ) (a b c : ℕ) : Type 0 where
  pub sizes_are : s ≡ items_to 2 sizes a
  pub losses_are : l ≡ items_to 8 losses b
  pub weights_are : w ≡ items_to 2 weights c

-- The strings of sizes, losses and weights that were written.
pub record ModelsWritten (sizes losses weights s l w sizes' losses' weights' : List ℕ) : Type 0 where
  pub sizes_are : sizes' ≡ written_to 2 sizes s
  pub losses_are : losses' ≡ written_to 8 losses l
  pub weights_are : weights' ≡ written_to 2 weights w

-- The starts and levels that were read.
pub record SegmentsRead (starts levels s : List ℕ) (l : List ℤ) (a b : ℕ) : Type 0 where
  pub starts_are : s ≡ items_to 2 starts a
  pub levels_are : l ≡ map signed_of (items_to 2 levels b)

-- The strings of starts and levels that were written.
pub record SegmentsWritten (starts levels s : List ℕ) (l : List ℤ) (starts' levels' : List ℕ) : Type 0 where
  pub starts_are : starts' ≡ written_to 2 starts s
  pub levels_are : levels' ≡ written_signed levels l

-- A string of whole items of k bytes has an item at place `kept`, and n items or more.
pub record Storable (k : ℕ) (bytes : List ℕ) (kept n : ℕ) : Type 0 where
  pub whole : length bytes % k ≡ 0
  pub inside : kept < length (items_of k bytes)
  pub room : n ≤ length (items_of k bytes)
