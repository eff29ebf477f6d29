-- Equal fractions are equal penalties, as 1/2 and 2/4 are, for every call that takes a penalty and in every form of it.
use Rattle.std.specs.Prelude.{◌≡◌, true, List, ℕ, ◌*◌, ℤ}
use Rattle.path.specs.Model.{Lists}
use Rattle.select.specs.Penalty.{valid_penalty}
use Rattle.select.specs.Select.{select_of}
use Rattle.select.specs.declared.SelectResult.{SelectResult}
use Rattle.path.specs.declared.storage.Entry.{Entry}
use Rattle.signal.specs.Split.{SplitBuffers, split_of}
use Rattle.stream.specs.SplitFrom.{SegmentBuffers, split_from_of}
use Rattle.byte_paths.specs.Paths.{select_bytes_of}
use Rattle.byte_signals.specs.Signals.{SignalStrings, SplitStrings, split_bytes_of}
use Rattle.byte_streams.specs.Streams.{SegmentStrings, split_from_bytes_of}
use Rattle.demands.specs.EntryAnswers.{SelectAllows}

-- What a call leaves at a penalty is the same at every equal fraction that is a penalty too.
abbrev pub GoesByValue : {O : Type 0} → (ℕ → ℕ → O) → Type 0
GoesByValue call = (p q p' q' : ℕ) → valid_penalty p q ≡ true → valid_penalty p' q' ≡ true → p * q' ≡ p' * q → call p q ≡ call p' q'

-- So it is for every call, on numbers and on byte strings, and for the answers that the contract of a selection from entries allows.
pub record SamePenalties : Type 0 where
  pub select : (t : Lists) (n : ℕ) → GoesByValue (λ p q. select_of t n p q)
  pub split : (samples : List ℤ) (limit d : ℕ) (weights : List ℕ) (b : SplitBuffers)
      → GoesByValue (λ p q. split_of samples limit d weights p q b)
  pub split_from : (samples : List ℤ) (limit : ℕ) (table : List ℕ) (b : SegmentBuffers)
      → GoesByValue (λ p q. split_from_of samples limit p q table b)
  pub byte_select : (x : Lists) (n : ℕ) → GoesByValue (λ p q. select_bytes_of x n p q)
  pub byte_split : (x : SignalStrings) (limit d : ℕ) (b : SplitStrings) → GoesByValue (λ p q. split_bytes_of x limit d p q b)
  pub byte_split_from : (samples : List ℕ) (limit : ℕ) (table : List ℕ) (b : SegmentStrings)
      → GoesByValue (λ p q. split_from_bytes_of samples limit p q table b)
  pub entry_select : (list : List Entry) (n : ℕ) (answers : ℕ → ℕ → SelectResult)
      → ((p q : ℕ) → SelectAllows list n p q (answers p q)) → GoesByValue answers
