-- Histories of calls on lists of entries, told by their answers: a call leaves an answer and a list that its contract allows, and it is
-- these that the next state is made of. What is claimed of the three lists of numbers of the list at the end is what is claimed of a
-- history of calls on numbers. The last claim is on appends that follow a build by the older method.
use Rattle.std.specs.Prelude.{◌≡◌, Bool, true, false, cond, List, [], ◌∷◌, ℕ, ◌+◌, ◌≤◌, ◌<◌, eqb, length}
use Rattle.path.specs.Model.{Model}
use Rattle.path.specs.Append.{path_outcome, append_of}
use Rattle.path.specs.declared.PathResult.{PathResult}
use Rattle.quadratic.specs.Quadratic.{build_by}
use Rattle.select.specs.Penalty.{valid_penalty}
use Rattle.select.specs.Select.{select_of}
use Rattle.select.specs.Breakpoints.{breakpoints_outcome, breakpoints_of}
use Rattle.select.specs.declared.SelectResult.{SelectResult}
use Rattle.select.specs.declared.BreakpointsResult.{BreakpointsResult}
use Rattle.hull.specs.History.{models_of, path_at}
use Rattle.hull.specs.Claims.{PathDemand, PathOfWinners, Falling, SelectsSmallest, Between}
use Rattle.models.specs.Entries.{lists_in}
use Rattle.path.specs.declared.storage.Entry.{Entry}
use Rattle.demands.specs.EntryHistories.{EntryState, numbers_of, EntryStart, no_entries, built_from}

-- The contract of `append_entries` allows the answer r and the list y after an append of m to the first n entries of a list.
abbrev pub AppendAllows : List Entry → ℕ → Model → PathResult → List Entry → Type 0
AppendAllows list n m r y = path_outcome r (lists_in y) ≡ append_of (lists_in list) n m

-- The contract of `build_entries` allows the answer r and the list y after a build of a list of models into a list of entries, by the
-- older method where the flag says so.
abbrev pub BuildAllows : Bool → List Entry → List Entry → PathResult → List Entry → Type 0
BuildAllows older models list r y = path_outcome r (lists_in y) ≡ build_by older (lists_in models) (lists_in list)

-- The contract of `select_entries` allows the answer r at the penalty p / q.
abbrev pub SelectAllows : List Entry → ℕ → ℕ → ℕ → SelectResult → Type 0
SelectAllows list n p q r = r ≡ select_of (lists_in list) n p q

-- The contract of `breakpoints_entries` allows the answer r and the buffers a' and b' after a listing to the buffers a and b.
abbrev pub BreakpointsAllows : List Entry → ℕ → List ℕ → List ℕ → BreakpointsResult → List ℕ → List ℕ → Type 0
BreakpointsAllows list n a b r a' b' = breakpoints_outcome r a' b' ≡ breakpoints_of (lists_in list) n a b

-- An empty path in a list.
abbrev pub empty_entries : List Entry → EntryState
empty_entries list = record { list = list; entries = 0; tests = 0; models = [] }

-- The state after a call that brings models, from its answer r and the list y that it leaves: where it was accepted, its path with the
-- models accepted by then, and else the path as before.
abbrev pub after_entry_call : List Model → EntryState → PathResult → List Entry → EntryState
after_entry_call models x r y =
    cond (eqb r.refusal 0)
    (record { list = y; entries = r.entries; tests = x.tests + r.tests.count; models = models })
    (record { list = y; entries = x.entries; tests = x.tests + r.tests.count; models = x.models })

-- The state x is one from which the appends may go on: an empty path, or what a build leaves by an answer and a list that it is allowed.
abbrev pub BegunBy : EntryStart → List Entry → EntryState → Type 0
BegunBy no_entries list x = empty_entries list ≡ x
BegunBy (built_from models) list x =
    (r : PathResult) × (y : List Entry) × BuildAllows false models list r y
    × (after_entry_call (models_of (lists_in models)) (empty_entries list) r y ≡ x)

-- The state z follows x by a list of appends, each with an answer and a list that it is allowed.
abbrev pub ReachedBy : EntryState → List Model → EntryState → Type 0
ReachedBy x [] z = x ≡ z
ReachedBy x (m ∷ ms) z =
    (r : PathResult) × (y : List Entry) × AppendAllows x.list x.entries m r y
    × ReachedBy (after_entry_call (m ∷ x.models) x r y) ms z

-- A property holds of the state that any such history leaves.
abbrev pub AfterEveryAnsweredHistory : (EntryState → Type 0) → Type 0
AfterEveryAnsweredHistory P =
    (start : EntryStart) (list : List Entry) (ms : List Model) (x z : EntryState) → BegunBy start list x → ReachedBy x ms z → P z

-- Demand 3 on a path, in one claim on the whole history.
abbrev pub AnsweredHistoryClaim : Type 0
AnsweredHistoryClaim = AfterEveryAnsweredHistory (λ z. PathDemand (numbers_of z))

-- No call that is lent the path of n entries in a list is allowed to answer 8.
pub record EntryNeverEight (list : List Entry) (n : ℕ) : Type 0 where
  pub append : (m : Model) (r : PathResult) (y : List Entry) → AppendAllows list n m r y → r.refusal ≡ 8 → ⊥
  pub select : (p q : ℕ) (r : SelectResult) → SelectAllows list n p q r → r.refusal ≡ 8 → ⊥
  pub breakpoints : (a b : List ℕ) (r : BreakpointsResult) (a' b' : List ℕ) → BreakpointsAllows list n a b r a' b'
      → r.refusal ≡ 8 → ⊥

-- The path that such a history leaves can always be lent to the next call.
abbrev pub EntryNeverEightClaim : Type 0
EntryNeverEightClaim = AfterEveryAnsweredHistory (λ z. EntryNeverEight z.list z.entries)

-- What a path that the engine left in a list of entries has, in a state whose models are all those of the calls that led to it. Its
-- numbers list the models that can win, and their breakpoints fall. No next call is allowed to answer 8, and every answer allowed at an
-- accepted penalty gives the smallest of the cheapest of all the models, by the breaks that it lies between.
pub record EntryEnginePath (z : EntryState) : Type 0 where
  pub winners : PathOfWinners (path_at (numbers_of z)) z.models
  pub falling : Falling (path_at (numbers_of z))
  pub never_eight : EntryNeverEight z.list z.entries
  pub selections : (p q : ℕ) (r : SelectResult) → valid_penalty p q ≡ true → SelectAllows z.list z.entries p q r
      → SelectsSmallest (lists_in z.list) z.entries p q z.models r
  pub between : (i p q : ℕ) (r : SelectResult) → i < z.entries → valid_penalty p q ≡ true
      → SelectAllows z.list z.entries p q r → Between (lists_in z.list) z.entries i p q r.index

-- The path that such a history with an accepted model leaves is one.
abbrev pub EntryEngineClaim : Type 0
EntryEngineClaim = AfterEveryAnsweredHistory (λ z. 1 ≤ length z.models → EntryEnginePath z)

-- The state that an accepted build of models leaves, by its answer r and the list y. No tests are counted.
abbrev pub built_entries : List Entry → PathResult → List Entry → EntryState
built_entries models r y =
    record { list = y; entries = r.entries; tests = 0; models = models_of (lists_in models) }

-- An accepted build by the older method may come before the appends too, and the path is then the engine's.
abbrev pub EntryOriginClaim : Type 0
EntryOriginClaim =
    (models list y : List Entry) (r : PathResult) (ms : List Model) (z : EntryState) → BuildAllows true models list r y
    → r.refusal ≡ 0 → ReachedBy (built_entries models r y) ms z → EntryEnginePath z
