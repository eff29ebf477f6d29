-- The refusals of the calls on lists of entries. The checks of each call are those of the call on numbers, over the three lists of numbers
-- that its lists hold. They are claimed of every answer, and of every list or buffers left, that the contract of the call allows.
use Rattle.std.specs.Prelude.{Bool, List, ℕ, length}
use Rattle.coding.specs.Coding.{Outcome, outcome}
use Rattle.path.specs.Model.{Model, lengths}
use Rattle.path.specs.Refusal.{Check}
use Rattle.path.specs.Append.{append_checks}
use Rattle.path.specs.declared.PathResult.{PathResult}
use Rattle.build.specs.Build.{build_checks}
use Rattle.select.specs.Select.{select_checks}
use Rattle.select.specs.Breakpoints.{BreakpointsOutcome, breakpoints_outcome, breakpoints_checks}
use Rattle.select.specs.declared.SelectResult.{SelectResult}
use Rattle.select.specs.declared.BreakpointsResult.{BreakpointsResult}
use Rattle.hull.specs.Refusals.{RefusesByChecks}
use Rattle.models.specs.Entries.{lists_in}
use Rattle.path.specs.declared.storage.Entry.{Entry}
use Rattle.demands.specs.EntryAnswers.{AppendAllows, BuildAllows, SelectAllows, BreakpointsAllows}

-- A call that is lent a list, answers r and leaves the list y answers its checks in order, and a refused one gives its number, zeros, and
-- the list as it was.
abbrev pub EntryRefusal : List Check → List Entry → PathResult → List Entry → Type 0
EntryRefusal checks list r y =
    RefusesByChecks checks (λ (o : Outcome PathResult (List Entry)). o.answer.refusal)
    (λ number. outcome (record { refusal = number; entries = 0; tests = record { count = 0 } }) list)
    (outcome r y)

-- So does each call on entries. A build does by either method, and a listing of breakpoints leaves its two buffers.
pub record EntryRefusals : Type 0 where
  pub append : (list : List Entry) (n : ℕ) (m : Model) (r : PathResult) (y : List Entry) → AppendAllows list n m r y
      → EntryRefusal (append_checks (lists_in list) n m) list r y
  pub build : (older : Bool) (models list : List Entry) (r : PathResult) (y : List Entry) → BuildAllows older models list r y
      → EntryRefusal (build_checks (lists_in models) (lengths (lists_in list))) list r y
  pub select : (list : List Entry) (n p q : ℕ) (r : SelectResult) → SelectAllows list n p q r
      → RefusesByChecks (select_checks (lists_in list) n p q) (λ (r : SelectResult). r.refusal)
      (λ number. record { refusal = number; index = 0; size = 0; loss = 0; weight = 0 })
      r
  pub breakpoints : (list : List Entry) (n : ℕ) (a b : List ℕ) (r : BreakpointsResult) (a' b' : List ℕ)
      → BreakpointsAllows list n a b r a' b'
      → RefusesByChecks (breakpoints_checks (lists_in list) n (length a) (length b)) (λ (o : BreakpointsOutcome). o.refusal)
      (λ number. record { refusal = number; count = 0; numerators = a; denominators = b })
      (breakpoints_outcome r a' b')
