-- The calls on signals over byte strings. Samples and levels are items of two bytes with a sign, starts, sizes and weights items of two
-- without one, losses items of eight, and the scratch is bytes.
use Rattle.std.specs.Prelude.{refl, List, ℕ, ℤ}
use Rattle.coding.specs.Coding.{Outcome, outcome, Answers, Coding, unsigneds, signeds, raw, ◌⊗◌, Names, named, on_bytes}
use Rattle.coding.specs.Models.{models_coding}
use Rattle.path.specs.Model.{Lists}
use Rattle.signal.specs.SignalPath.{PathBuffers, path_buffers, SignalPathOutcome, signal_path_of}
use Rattle.signal.specs.Split.{SplitBuffers, SplitOutcome, split_of}
use Rattle.signal.specs.declared.SignalPathResult.{SignalPathResult}
use Rattle.signal.specs.declared.SplitResult.{SplitResult}

-- What a call on a signal only reads: two byte strings, of samples and of weights.
pub record SignalStrings : Type 0 where
  pub samples : List ℕ
  pub weights : List ℕ

-- The two by what they hold.
abbrev pub signal_strings : List ℕ → List ℕ → SignalStrings
signal_strings samples weights = record { samples = samples; weights = weights }

-- The numbers that they hold.
pub record SignalNumbers : Type 0 where
  pub samples : List ℤ
  pub weights : List ℕ

-- The two by what they hold.
abbrev pub signal_numbers : List ℤ → List ℕ → SignalNumbers
signal_numbers samples weights = record { samples = samples; weights = weights }

abbrev pub signal_string_names : Names SignalStrings (List ℕ × List ℕ)
signal_string_names =
    record {
      in_order = λ x. (x.samples, x.weights);
      by_name = λ (samples, weights). signal_strings samples weights;
      same_order = λ x. refl;
      same_names = λ x. refl;
    }

abbrev pub signal_number_names : Names SignalNumbers (List ℤ × List ℕ)
signal_number_names =
    record {
      in_order = λ x. (x.samples, x.weights);
      by_name = λ (samples, weights). signal_numbers samples weights;
      same_order = λ x. refl;
      same_names = λ x. refl;
    }

abbrev pub signal_coding : Coding
signal_coding = named (signeds ⊗ unsigneds 2) signal_string_names signal_number_names

-- The buffers of a path call are four byte strings, or the numbers that they hold.
abbrev pub path_names : Names PathBuffers (Lists × List ℕ)
path_names =
    record {
      in_order = λ b. (b.lists, b.scratch);
      by_name = λ (t, scratch). path_buffers t scratch;
      same_order = λ b. refl;
      same_names = λ b. refl;
    }

abbrev pub path_coding : Coding
path_coding = named (models_coding ⊗ raw) path_names path_names

abbrev pub signal_path_answers : Answers SignalPathResult
signal_path_answers =
    record { number = λ r. r.refusal; refused = λ number. record { refusal = number; entries = 0 }; numbered = λ number. refl }

-- What a path call leaves, as an answer with its buffers.
abbrev pub signal_path_told : SignalPathOutcome → Outcome SignalPathResult PathBuffers
signal_path_told o = outcome (record { refusal = o.refusal; entries = o.entries }) o.buffers

-- The path of a signal by weights, with at most `limit` segments, each of at least d samples.
abbrev pub signal_path_call : ℕ → ℕ → SignalNumbers → PathBuffers → Outcome SignalPathResult PathBuffers
signal_path_call limit d x b = signal_path_told (signal_path_of x.samples limit d x.weights b)

abbrev pub signal_path_bytes_of : SignalStrings → ℕ → ℕ → PathBuffers → Outcome SignalPathResult PathBuffers
signal_path_bytes_of x limit d = on_bytes signal_coding path_coding signal_path_answers (signal_path_call limit d) x

-- The byte strings that a split is lent.
pub record SplitStrings : Type 0 where
  pub starts : List ℕ
  pub levels : List ℕ
  pub path : PathBuffers

-- The strings by what they hold.
abbrev pub split_strings : List ℕ → List ℕ → Lists → List ℕ → SplitStrings
split_strings starts levels t scratch = record { starts = starts; levels = levels; path = path_buffers t scratch }

abbrev pub split_string_names : Names SplitStrings (List ℕ × (List ℕ × PathBuffers))
split_string_names =
    record {
      in_order = λ b. (b.starts, (b.levels, b.path));
      by_name = λ (starts, (levels, path)). record { starts = starts; levels = levels; path = path };
      same_order = λ b. refl;
      same_names = λ b. refl;
    }

abbrev pub split_buffer_names : Names SplitBuffers (List ℕ × (List ℤ × PathBuffers))
split_buffer_names =
    record {
      in_order = λ b. (b.starts, (b.levels, b.path));
      by_name = λ (starts, (levels, path)). record { starts = starts; levels = levels; path = path };
      same_order = λ b. refl;
      same_names = λ b. refl;
    }

abbrev pub split_coding : Coding
split_coding = named (unsigneds 2 ⊗ signeds ⊗ path_coding) split_string_names split_buffer_names

abbrev pub split_answers : Answers SplitResult
split_answers =
    record {
      number = λ r. r.refusal;
      refused = λ number. record { refusal = number; segments = 0; loss = 0; entries = 0 };
      numbered = λ number. refl;
    }

-- What a split leaves, as an answer with its buffers.
abbrev pub split_told : SplitOutcome → Outcome SplitResult SplitBuffers
split_told o =
    outcome (record { refusal = o.refusal; segments = o.segments; loss = o.loss; entries = o.entries }) o.buffers

-- The split of a signal at the penalty p / q by weights, with at most `limit` segments, each of at least d samples.
abbrev pub split_call : ℕ → ℕ → ℕ → ℕ → SignalNumbers → SplitBuffers → Outcome SplitResult SplitBuffers
split_call limit d p q x b = split_told (split_of x.samples limit d x.weights p q b)

abbrev pub split_bytes_of : SignalStrings → ℕ → ℕ → ℕ → ℕ → SplitStrings → Outcome SplitResult SplitStrings
split_bytes_of x limit d p q = on_bytes signal_coding split_coding split_answers (split_call limit d p q) x
