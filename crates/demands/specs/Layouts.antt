-- What byte strings, entries and tables spell, written out in numbers: the widths of the items, the order of their bytes, the sign, and
-- which string holds which list. The claims on byte strings and on entries speak through these.
use Rattle.std.specs.Prelude.{◌≡◌, List, [], ◌∷◌, map, ℕ, ◌+◌, ◌*◌, ◌-◌, ◌%◌, ◌≤◌, ◌<◌, ℤ, pos, neg_ℤ, length, get_or}
use Rattle.layout.specs.Items.{Bytes, items_of, bytes_of, signed_of, unsigned_of}
use Rattle.coding.specs.Coding.{unsigneds, signeds}
use Rattle.coding.specs.Models.{models_coding}
use Rattle.path.specs.Model.{Lists}
use Rattle.models.specs.Entries.{lists_in}
use Rattle.path.specs.declared.storage.Entry.{Entry}
use Rattle.signal.specs.SignalPath.{PathBuffers}
use Rattle.signal.specs.Split.{SplitBuffers}
use Rattle.stream.specs.Table.{value}
use Rattle.stream.specs.Extend.{StreamBuffers}
use Rattle.stream.specs.SplitFrom.{SegmentBuffers}
use Rattle.byte_paths.specs.Paths.{Fractions, fractions_coding}
use Rattle.byte_signals.specs.Signals.{SignalStrings, SignalNumbers, SplitStrings, signal_coding, path_coding, split_coding}
use Rattle.byte_streams.specs.Streams.{SegmentStrings, stream_coding, segments_coding}

-- The number of eight bytes, the lowest first.
abbrev pub of_eight : (a b c d e f g h : ℕ) → ℕ
of_eight a b c d e f g h = a + 256 * (b + 256 * (c + 256 * (d + 256 * (e + 256 * (f + 256 * (g + 256 * h))))))

-- The items of a string of bytes, and the bytes of a list of items.
pub record ItemsLayout : Type 0 where
  pub bytes_held : (s : List ℕ) → ((i : ℕ) → get_or s i 0 < 256) → Bytes s
  pub two : (a b : ℕ) (s : List ℕ) → items_of 2 (a ∷ b ∷ s) ≡ (a + 256 * b) ∷ items_of 2 s
  pub less_than_two : (s : List ℕ) → length s < 2 → items_of 2 s ≡ []
  pub eight : (a b c d e f g h : ℕ) (s : List ℕ)
      → items_of 8 (a ∷ b ∷ c ∷ d ∷ e ∷ f ∷ g ∷ h ∷ s) ≡ of_eight a b c d e f g h ∷ items_of 8 s
  pub less_than_eight : (s : List ℕ) → length s < 8 → items_of 8 s ≡ []
  pub no_bytes : (k : ℕ) → bytes_of k [] ≡ []
  pub two_back : (a b : ℕ) (s : List ℕ) → a < 256 → b < 256 → bytes_of 2 ((a + 256 * b) ∷ s) ≡ a ∷ b ∷ bytes_of 2 s
  pub eight_back : (a b c d e f g h : ℕ) (s : List ℕ)
      → a < 256 → b < 256 → c < 256 → d < 256 → e < 256 → f < 256 → g < 256 → h < 256
      → bytes_of 8 (of_eight a b c d e f g h ∷ s) ≡ a ∷ b ∷ c ∷ d ∷ e ∷ f ∷ g ∷ h ∷ bytes_of 8 s

-- The sign of an item of two bytes, and the item of a number with a sign.
pub record SignLayout : Type 0 where
  pub not_negative : (v : ℕ) → v < 32768 → signed_of v ≡ pos v
  pub negative : (v : ℕ) → 32768 ≤ v → v < 65536 → signed_of v ≡ neg_ℤ (pos (65536 - v))
  pub not_negative_back : (v : ℕ) → unsigned_of (pos v) ≡ v
  pub negative_back : (v : ℕ) → 0 < v → v < 65536 → unsigned_of (neg_ℤ (pos v)) ≡ 65536 - v

-- One string of numbers of k bytes each.
pub record UnsignedLayout (k : ℕ) : Type 0 where
  pub held : (s : List ℕ) → Bytes s → (unsigneds k).Held s
  pub spare : (s : List ℕ) → (unsigneds k).spare s ≡ length s % k
  pub numbers : (s : List ℕ) → (unsigneds k).numbers s ≡ items_of k s
  pub bytes : (x : List ℕ) → (unsigneds k).bytes x ≡ bytes_of k x

-- One string of samples.
pub record SignedLayout : Type 0 where
  pub held : (s : List ℕ) → Bytes s → signeds.Held s
  pub spare : (s : List ℕ) → signeds.spare s ≡ length s % 2
  pub numbers : (s : List ℕ) → signeds.numbers s ≡ map signed_of (items_of 2 s)
  pub bytes : (x : List ℤ) → signeds.bytes x ≡ bytes_of 2 (map unsigned_of x)

-- The strings of models or of a path.
pub record ModelsLayout : Type 0 where
  pub held : (s : Lists) → Bytes s.sizes → Bytes s.losses → Bytes s.weights → models_coding.Held s
  pub spare : (s : Lists) → models_coding.spare s ≡ length s.sizes % 2 + (length s.losses % 8 + length s.weights % 2)
  pub numbers : (s : Lists)
      → models_coding.numbers s
      ≡ record { sizes = items_of 2 s.sizes; losses = items_of 8 s.losses; weights = items_of 2 s.weights }
  pub bytes : (x : Lists)
      → models_coding.bytes x
      ≡ record { sizes = bytes_of 2 x.sizes; losses = bytes_of 8 x.losses; weights = bytes_of 2 x.weights }

-- The strings of breakpoints.
pub record FractionsLayout : Type 0 where
  pub held : (s : Fractions) → Bytes s.numerators → Bytes s.denominators → fractions_coding.Held s
  pub spare : (s : Fractions) → fractions_coding.spare s ≡ length s.numerators % 8 + length s.denominators % 2
  pub numbers : (s : Fractions)
      → fractions_coding.numbers s ≡ record { numerators = items_of 8 s.numerators; denominators = items_of 2 s.denominators }
  pub bytes : (x : Fractions)
      → fractions_coding.bytes x ≡ record { numerators = bytes_of 8 x.numerators; denominators = bytes_of 2 x.denominators }

-- The strings of samples and of weights.
pub record SignalLayout : Type 0 where
  pub held : (s : SignalStrings) → Bytes s.samples → Bytes s.weights → signal_coding.Held s
  pub spare : (s : SignalStrings) → signal_coding.spare s ≡ length s.samples % 2 + length s.weights % 2
  pub numbers : (s : SignalStrings)
      → signal_coding.numbers s ≡ record { samples = map signed_of (items_of 2 s.samples); weights = items_of 2 s.weights }
  pub bytes : (x : SignalNumbers)
      → signal_coding.bytes x ≡ record { samples = bytes_of 2 (map unsigned_of x.samples); weights = bytes_of 2 x.weights }

-- The strings of a path call: those of a path, and the scratch as it is.
pub record PathLayout : Type 0 where
  pub held : (s : PathBuffers) → models_coding.Held s.lists → path_coding.Held s
  pub spare : (s : PathBuffers) → path_coding.spare s ≡ models_coding.spare s.lists
  pub numbers : (s : PathBuffers) → path_coding.numbers s ≡ record { lists = models_coding.numbers s.lists; scratch = s.scratch }
  pub bytes : (x : PathBuffers) → path_coding.bytes x ≡ record { lists = models_coding.bytes x.lists; scratch = x.scratch }

-- The strings of a split: starts, levels, and those of a path call.
pub record SplitLayout : Type 0 where
  pub held : (s : SplitStrings) → Bytes s.starts → Bytes s.levels → path_coding.Held s.path → split_coding.Held s
  pub spare : (s : SplitStrings)
      → split_coding.spare s ≡ length s.starts % 2 + (length s.levels % 2 + path_coding.spare s.path)
  pub numbers : (s : SplitStrings)
      → split_coding.numbers s
      ≡ record { starts = items_of 2 s.starts; levels = map signed_of (items_of 2 s.levels); path = path_coding.numbers s.path }
  pub bytes : (x : SplitBuffers)
      → split_coding.bytes x
      ≡ record { starts = bytes_of 2 x.starts; levels = bytes_of 2 (map unsigned_of x.levels); path = path_coding.bytes x.path }

-- The strings of an extension: the table as it is, and those of a path.
pub record StreamLayout : Type 0 where
  pub held : (s : StreamBuffers) → models_coding.Held s.path → stream_coding.Held s
  pub spare : (s : StreamBuffers) → stream_coding.spare s ≡ models_coding.spare s.path
  pub numbers : (s : StreamBuffers) → stream_coding.numbers s ≡ record { table = s.table; path = models_coding.numbers s.path }
  pub bytes : (x : StreamBuffers) → stream_coding.bytes x ≡ record { table = x.table; path = models_coding.bytes x.path }

-- The strings of a split from a table.
pub record SegmentsLayout : Type 0 where
  pub held : (s : SegmentStrings) → Bytes s.starts → Bytes s.levels → segments_coding.Held s
  pub spare : (s : SegmentStrings) → segments_coding.spare s ≡ length s.starts % 2 + length s.levels % 2
  pub numbers : (s : SegmentStrings)
      → segments_coding.numbers s ≡ record { starts = items_of 2 s.starts; levels = map signed_of (items_of 2 s.levels) }
  pub bytes : (x : SegmentBuffers)
      → segments_coding.bytes x ≡ record { starts = bytes_of 2 x.starts; levels = bytes_of 2 (map unsigned_of x.levels) }

-- The three lists of entries.
pub record EntriesLayout : Type 0 where
  pub no-entry : lists_in [] ≡ record { sizes = []; losses = []; weights = [] }
  pub entry : (e : Entry) (es : List Entry)
      → lists_in (e ∷ es)
      ≡ record { sizes = e.size ∷ (lists_in es).sizes; losses = e.loss ∷ (lists_in es).losses; weights = e.weight ∷ (lists_in es).weights }

-- The number that the eight bytes from the place `at` spell.
abbrev pub eight_from : List ℕ → ℕ → ℕ
eight_from s at =
    of_eight (get_or s at 0) (get_or s (at + 1) 0) (get_or s (at + 2) 0) (get_or s (at + 3) 0) (get_or s (at + 4) 0) (get_or s (at + 5) 0)
    (get_or s (at + 6) 0) (get_or s (at + 7) 0)

-- The value of k + 1 segments over the first j samples stands in a row of 512, after k rows.
abbrev pub TableLayout : Type 0
TableLayout = (table : List ℕ) (k j : ℕ) → value table k j ≡ eight_from table (8 * (512 * k + (j - 1)))

-- All of it.
pub record LayoutClaims : Type 0 where
  pub items : ItemsLayout
  pub sign : SignLayout
  pub unsigned : (k : ℕ) → UnsignedLayout k
  pub signed : SignedLayout
  pub models : ModelsLayout
  pub fractions : FractionsLayout
  pub signal : SignalLayout
  pub path : PathLayout
  pub split : SplitLayout
  pub stream : StreamLayout
  pub segments : SegmentsLayout
  pub entries : EntriesLayout
  pub table : TableLayout
