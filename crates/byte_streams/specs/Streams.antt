-- The calls on streaming signals over byte strings. Samples and levels are items of two bytes with a sign, starts, sizes and weights
-- items of two without one, and losses items of eight. The table is bytes in the call on numbers too, whose first check is that of its
-- length.
use Rattle.std.specs.Prelude.{refl, List, ℕ, ℤ}
use Rattle.coding.specs.Coding.{Outcome, outcome, Answers, Coding, unsigneds, signeds, raw, ◌⊗◌, Names, named, on_bytes}
use Rattle.coding.specs.Models.{models_coding}
use Rattle.path.specs.Model.{Lists}
use Rattle.stream.specs.Extend.{StreamBuffers, stream_buffers, ExtendOutcome, extend_of}
use Rattle.stream.specs.SplitFrom.{SegmentBuffers, segment_buffers, SplitFromOutcome, split_from_of}
use Rattle.stream.specs.declared.ExtendResult.{ExtendResult}
use Rattle.stream.specs.declared.SplitFromResult.{SplitFromResult}

-- The buffers of an extension are four byte strings, or the numbers that they hold.
abbrev pub stream_names : Names StreamBuffers (List ℕ × Lists)
stream_names =
    record {
      in_order = λ b. (b.table, b.path);
      by_name = λ (table, path). stream_buffers table path;
      same_order = λ b. refl;
      same_names = λ b. refl;
    }

abbrev pub stream_coding : Coding
stream_coding = named (raw ⊗ models_coding) stream_names stream_names

abbrev pub extend_answers : Answers ExtendResult
extend_answers =
    record { number = λ r. r.refusal; refused = λ number. record { refusal = number; entries = 0 }; numbered = λ number. refl }

-- What an extension leaves, as an answer with its buffers.
abbrev pub extend_told : ExtendOutcome → Outcome ExtendResult StreamBuffers
extend_told o = outcome (record { refusal = o.refusal; entries = o.entries }) o.buffers

-- The extension of samples by one more, which is lent as a number, with at most `limit` segments.
abbrev pub extend_call : ℤ → ℕ → List ℤ → StreamBuffers → Outcome ExtendResult StreamBuffers
extend_call sample limit samples b = extend_told (extend_of samples sample limit b)

abbrev pub extend_bytes_of : List ℕ → ℤ → ℕ → StreamBuffers → Outcome ExtendResult StreamBuffers
extend_bytes_of samples sample limit = on_bytes signeds stream_coding extend_answers (extend_call sample limit) samples

-- The byte strings that a split from a table writes to.
pub record SegmentStrings : Type 0 where
  pub starts : List ℕ
  pub levels : List ℕ

-- The strings by what they hold.
abbrev pub segment_strings : List ℕ → List ℕ → SegmentStrings
segment_strings starts levels = record { starts = starts; levels = levels }

abbrev pub segment_string_names : Names SegmentStrings (List ℕ × List ℕ)
segment_string_names =
    record {
      in_order = λ b. (b.starts, b.levels);
      by_name = λ (starts, levels). segment_strings starts levels;
      same_order = λ b. refl;
      same_names = λ b. refl;
    }

abbrev pub segment_buffer_names : Names SegmentBuffers (List ℕ × List ℤ)
segment_buffer_names =
    record {
      in_order = λ b. (b.starts, b.levels);
      by_name = λ (starts, levels). segment_buffers starts levels;
      same_order = λ b. refl;
      same_names = λ b. refl;
    }

abbrev pub segments_coding : Coding
segments_coding = named (unsigneds 2 ⊗ signeds) segment_string_names segment_buffer_names

abbrev pub split_from_answers : Answers SplitFromResult
split_from_answers =
    record { number = λ r. r.refusal; refused = λ number. record { refusal = number; segments = 0; loss = 0 }; numbered = λ number. refl }

-- What a split from a table leaves, as an answer with its buffers.
abbrev pub split_from_told : SplitFromOutcome → Outcome SplitFromResult SegmentBuffers
split_from_told o = outcome (record { refusal = o.refusal; segments = o.segments; loss = o.loss }) o.buffers

-- The split of samples from a table at the penalty p / q, with at most `limit` segments.
abbrev pub split_from_call : ℕ → ℕ → ℕ → List ℕ → List ℤ → SegmentBuffers → Outcome SplitFromResult SegmentBuffers
split_from_call limit p q table samples b = split_from_told (split_from_of samples limit p q table b)

abbrev pub split_from_bytes_of : List ℕ → ℕ → ℕ → ℕ → List ℕ → SegmentStrings → Outcome SplitFromResult SegmentStrings
split_from_bytes_of samples limit p q table = on_bytes signeds segments_coding split_from_answers (split_from_call limit p q table) samples
