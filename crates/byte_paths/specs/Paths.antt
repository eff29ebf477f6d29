-- The calls on a path over byte strings. Sizes, weights and denominators are items of two bytes, losses and numerators items of eight.
use Rattle.std.specs.Prelude.{refl, Bool, true, false, List, ℕ}
use Rattle.coding.specs.Coding.{Outcome, outcome, Answers, Coding, unsigneds, none, ◌⊗◌, Names, named, on_bytes}
use Rattle.coding.specs.Models.{models_coding}
use Rattle.path.specs.Model.{Model, Lists}
use Rattle.path.specs.Append.{PathOutcome, append_of}
use Rattle.path.specs.declared.PathResult.{PathResult}
use Rattle.quadratic.specs.Quadratic.{build_by}
use Rattle.select.specs.Select.{select_refused, select_of}
use Rattle.select.specs.declared.SelectResult.{SelectResult}
use Rattle.select.specs.Breakpoints.{BreakpointsOutcome, breakpoints_of}
use Rattle.select.specs.declared.BreakpointsResult.{BreakpointsResult}

-- The answers of an append and of a build.
abbrev pub path_answers : Answers PathResult
path_answers =
    record {
      number = λ r. r.refusal;
      refused = λ number. record { refusal = number; entries = 0; tests = record { count = 0 } };
      numbered = λ number. refl;
    }

-- What an append or a build leaves, as an answer with its buffers.
abbrev pub path_told : PathOutcome → Outcome PathResult Lists
path_told o = outcome (record { refusal = o.refusal; entries = o.entries; tests = record { count = o.tests } }) o.buffers

-- An append of m to the path of n entries.
abbrev pub append_call : ℕ → Model → none.Numbers → Lists → Outcome PathResult Lists
append_call n m nothing b = path_told (append_of b n m)

abbrev pub append_bytes_of : Lists → ℕ → Model → Outcome PathResult Lists
append_bytes_of b n m = on_bytes none models_coding path_answers (append_call n m) tt b

-- A build of three lists into three buffers, by the older method where the first argument says so.
abbrev pub build_call : Bool → Lists → Lists → Outcome PathResult Lists
build_call older x b = path_told (build_by older x b)

abbrev pub build_bytes_by : Bool → Lists → Lists → Outcome PathResult Lists
build_bytes_by older = on_bytes models_coding models_coding path_answers (build_call older)

abbrev pub build_bytes_of : Lists → Lists → Outcome PathResult Lists
build_bytes_of = build_bytes_by false

abbrev pub quadratic_bytes_of : Lists → Lists → Outcome PathResult Lists
quadratic_bytes_of = build_bytes_by true

abbrev pub select_answers : Answers SelectResult
select_answers = record { number = λ r. r.refusal; refused = select_refused; numbered = λ number. refl }

-- The selection from the path of n entries at the penalty p / q. It has no buffers.
abbrev pub select_call : ℕ → ℕ → ℕ → Lists → none.Numbers → Outcome SelectResult none.Numbers
select_call n p q x nothing = outcome (select_of x n p q) nothing

abbrev pub select_bytes_of : Lists → ℕ → ℕ → ℕ → SelectResult
select_bytes_of x n p q = (on_bytes models_coding none select_answers (select_call n p q) x tt).answer

-- Breakpoints: two byte strings, or the numbers that they hold.
pub record Fractions : Type 0 where
  pub numerators : List ℕ
  pub denominators : List ℕ

-- The two by what they hold.
abbrev pub fractions : List ℕ → List ℕ → Fractions
fractions numerators denominators = record { numerators = numerators; denominators = denominators }

abbrev pub fraction_names : Names Fractions (List ℕ × List ℕ)
fraction_names =
    record {
      in_order = λ x. (x.numerators, x.denominators);
      by_name = λ (numerators, denominators). fractions numerators denominators;
      same_order = λ x. refl;
      same_names = λ x. refl;
    }

abbrev pub fractions_coding : Coding
fractions_coding = named (unsigneds 8 ⊗ unsigneds 2) fraction_names fraction_names

abbrev pub breakpoints_answers : Answers BreakpointsResult
breakpoints_answers =
    record { number = λ r. r.refusal; refused = λ number. record { refusal = number; count = 0 }; numbered = λ number. refl }

-- What a listing of breakpoints leaves, as an answer with its buffers.
abbrev pub breakpoints_told : BreakpointsOutcome → Outcome BreakpointsResult Fractions
breakpoints_told o = outcome (record { refusal = o.refusal; count = o.count }) (fractions o.numerators o.denominators)

-- The breakpoints of the path of n entries, written to two buffers.
abbrev pub breakpoints_call : ℕ → Lists → Fractions → Outcome BreakpointsResult Fractions
breakpoints_call n x b = breakpoints_told (breakpoints_of x n b.numerators b.denominators)

abbrev pub breakpoints_bytes_of : Lists → ℕ → Fractions → Outcome BreakpointsResult Fractions
breakpoints_bytes_of x n b = on_bytes models_coding fractions_coding breakpoints_answers (breakpoints_call n) x b
