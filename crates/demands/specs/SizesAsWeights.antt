-- Sizes that are their own weights. A list lent without weights before there were any is such a list now, and everything is as it was:
-- ranges, order and checks look at sizes and losses alone, breakpoints divide by differences of sizes, a cost counts sizes, and what calls
-- leave has its sizes as weights again. A call on a signal that is lent the sizes as weights does what it does without weights.
use Rattle.std.specs.Prelude.{◌≡◌, ◌&&◌, List, [], ◌∷◌, ℕ, zero, suc, ◌+◌, ◌*◌, ◌-◌, ltb, leb, ℤ}
use Rattle.coding.specs.Coding.{unsigneds}
use Rattle.path.specs.Model.{Model, Lists}
use Rattle.path.specs.Update.{fraction, breakpoint}
use Rattle.path.specs.Refusal.{check, refusal_of, max_size, max_loss, in_range, follows, size_above, loss_not_above, model_checks}
use Rattle.path.specs.Append.{append_of}
use Rattle.build.specs.Build.{build_of}
use Rattle.quadratic.specs.Quadratic.{quadratic_of}
use Rattle.select.specs.Penalty.{cost}
use Rattle.select.specs.Select.{select_of}
use Rattle.signal.specs.SignalPath.{PathBuffers, signal_path_of}
use Rattle.signal.specs.Split.{SplitBuffers, split_of}
use Rattle.byte_signals.specs.Signals.{signal_strings, signal_path_bytes_of, SplitStrings, split_bytes_of}

-- A model's size is its weight.
abbrev pub OwnWeight : Model → Type 0
OwnWeight m = m.weight ≡ m.size

-- That of every entry is.
abbrev pub OwnWeights : List Model → Type 0
OwnWeights [] = Unit {0}
OwnWeights (m ∷ ms) = OwnWeight m × OwnWeights ms

-- Three lists have their sizes as weights.
abbrev pub SameLists : Lists → Type 0
SameLists t = t.weights ≡ t.sizes

-- Models, one by one and after a path.
pub record OwnWeightRules : Type 0 where
  pub range : (m : Model) → OwnWeight m → in_range m ≡ (leb 1 m.size && leb m.size max_size && leb m.loss max_loss)
  pub order : (d e : Model) → OwnWeight d → OwnWeight e → follows d e ≡ (ltb d.size e.size && ltb e.loss d.loss)
  pub checks : (path : List Model) (m : Model) → OwnWeights path → OwnWeight m
      → refusal_of (model_checks path m) ≡ refusal_of (check 5 (in_range m) ∷ check 6 (size_above path m) ∷ check 7 (loss_not_above path m) ∷ [])
  pub breakpoints : (d e : Model) → OwnWeight d → OwnWeight e → breakpoint d e ≡ fraction (d.loss - e.loss) (e.size - d.size)
  pub costs : (p q : ℕ) (m : Model) → OwnWeight m → cost p q m ≡ q * m.loss + p * m.size

-- The calls on a path leave and answer sizes as weights where they are lent such.
pub record OwnWeightCalls : Type 0 where
  pub append : (t : Lists) (n : ℕ) (m : Model) → SameLists t → OwnWeight m → SameLists (append_of t n m).buffers
  pub build : (given t : Lists) → SameLists given → SameLists t → SameLists (build_of given t).buffers
  pub quadratic : (given t : Lists) → SameLists given → SameLists t → SameLists (quadratic_of given t).buffers
  pub select : (t : Lists) (n p q : ℕ) → SameLists t → (select_of t n p q).weight ≡ (select_of t n p q).size

-- The n sizes from k on.
abbrev pub sizes_from : ℕ → ℕ → List ℕ
sizes_from k zero = []
sizes_from k (suc n) = k ∷ sizes_from (suc k) n

-- The sizes up to a limit.
abbrev pub sizes_up_to : ℕ → List ℕ
sizes_up_to limit = sizes_from 1 limit

-- The calls on signals with the sizes up to the limit as weights are those without weights, on numbers and on byte strings.
pub record SizesForNone : Type 0 where
  pub signal-path : (samples : List ℤ) (limit d : ℕ) (b : PathBuffers)
      → signal_path_of samples limit d (sizes_up_to limit) b ≡ signal_path_of samples limit d [] b
  pub split : (samples : List ℤ) (limit d p q : ℕ) (b : SplitBuffers)
      → split_of samples limit d (sizes_up_to limit) p q b ≡ split_of samples limit d [] p q b
  pub byte_signal_path : (samples weights : List ℕ) (limit d : ℕ) (b : PathBuffers)
      → (unsigneds 2).spare weights ≡ 0 → (unsigneds 2).numbers weights ≡ sizes_up_to limit
      → signal_path_bytes_of (signal_strings samples weights) limit d b ≡ signal_path_bytes_of (signal_strings samples []) limit d b
  pub byte_split : (samples weights : List ℕ) (limit d p q : ℕ) (b : SplitStrings)
      → (unsigneds 2).spare weights ≡ 0 → (unsigneds 2).numbers weights ≡ sizes_up_to limit
      → split_bytes_of (signal_strings samples weights) limit d p q b ≡ split_bytes_of (signal_strings samples []) limit d p q b

-- All of it.
pub record SizesAsWeights : Type 0 where
  pub rules : OwnWeightRules
  pub path_calls : OwnWeightCalls
  pub signal_calls : SizesForNone
