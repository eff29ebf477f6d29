-- What the inner functions ask for. A reader of the calls need not believe anything that stands here.
use Rattle.std.specs.Prelude.{◌≡◌, List, [], ◌∷◌, ℕ, suc, ◌+◌, ◌%◌, length}
use Rattle.layout.specs.Items.{items_of, bytes_of}
use Rattle.coding.specs.Coding.{Outcome, encoded_over, on_bytes}
use Rattle.coding.specs.Models.{models_coding}
use Rattle.coding.specs.Inner.{ListsFit}
use Rattle.path.specs.Model.{Model, Lists, lists, path_of, values_of}
use Rattle.path.specs.Update.{Fraction, path_breakpoints}
use Rattle.path.specs.Buffer.{overwritten}
use Rattle.path.specs.declared.PathResult.{PathResult}
use Rattle.path.specs.Refusal.{max_models}
use Rattle.build.specs.Inner.{build_with}
use Rattle.select.specs.Inner.{Listable}
use Rattle.select.specs.declared.BreakpointsResult.{BreakpointsResult}
use Rattle.byte_paths.specs.Paths.{path_answers, path_told, append_call, Fractions, fractions_coding, breakpoints_answers, breakpoints_call}

-- How many models a build looks at.
abbrev pub models_read : ℕ
models_read = max_models + 1

-- A build of three lists into three buffers by a method, which gives the path of so many models and the tests that are counted for it.
abbrev pub build_bytes_with : (Lists → ℕ → List Model) → (Lists → ℕ → ℕ) → Lists → Lists → Outcome PathResult Lists
build_bytes_with path tests = on_bytes models_coding models_coding path_answers (λ x b. path_told (build_with path tests x b))

-- The last entry of a path, where it has one, is the model m.
abbrev pub LastIs : List Model → Model → Type 0
LastIs [] m = Unit {0}
LastIs (e ∷ r) m = m ≡ e

-- For a build no byte is left over, and three lists fit the models.
pub record BuildFits (x b : Lists) (i j k : ℕ) : Type 0 where
  pub whole : models_coding.spare x + models_coding.spare b ≡ 0
  pub given : ListsFit models_read x i j k

-- What an append to strings of whole items leaves: that of the numbers, encoded.
abbrev pub append_encoded : Lists → ℕ → Model → Outcome PathResult Lists
append_encoded b n m = encoded_over models_coding path_answers b (append_call n m tt (models_coding.numbers b))

-- The same of a listing of breakpoints.
abbrev pub breakpoints_encoded : Lists → ℕ → Fractions → Outcome BreakpointsResult Fractions
breakpoints_encoded x n b = encoded_over fractions_coding breakpoints_answers b (breakpoints_call n (models_coding.numbers x) (fractions_coding.numbers b))

-- The losses and weights that two strings hold may be listed, and two other strings of whole items have room for so many breakpoints.
pub record ListableIn (losses weights : List ℕ) (count : ℕ) (numerators denominators : List ℕ) : Type 0 where
  pub listable : Listable (items_of 8 losses) (items_of 2 weights) count (length (items_of 8 numerators)) (length (items_of 2 denominators))
  pub numerators_whole : length numerators % 8 ≡ 0
  pub denominators_whole : length denominators % 2 ≡ 0

-- The string b, which was b₀, spells items of k bytes that have a field of the breakpoints of the first i + 1 entries over their front.
pub record WrittenIn (k : ℕ) (field : Fraction → ℕ) (losses weights b₀ b : List ℕ) (i : ℕ) : Type 0 where
  pub long : length b ≡ length b₀
  pub is : (sizes : List ℕ)
      → b ≡ bytes_of k (overwritten
      (values_of field (path_breakpoints (path_of (lists sizes (items_of 8 losses) (items_of 2 weights)) (suc i))))
      (items_of k b₀))
