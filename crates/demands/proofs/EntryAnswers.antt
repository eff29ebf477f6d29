-- A history of calls on entries, told by its answers, is a history of calls on the three lists of numbers.
use mathlib.Core.Path.{◌≡◌, refl, sym, ap, subst, ◌∙◌}
use mathlib.Core.Bool.{Bool, true, false, cond}
use mathlib.Core.List.{List, [], ◌∷◌}
use Prim.Native.Nat.{ℕ, ◌+◌, ◌≤◌}
use lib.Dec.{eqb}
use lib.ListN.{length}
use Rattle.path.specs.Model.{Model}
use Rattle.path.specs.Append.{PathOutcome, path_outcome}
use Rattle.path.specs.declared.PathResult.{PathResult}
use Rattle.select.specs.Breakpoints.{BreakpointsOutcome}
use Rattle.select.specs.declared.SelectResult.{SelectResult}
use Rattle.hull.specs.History.{State, after_call, models_of, begin, appends}
use Rattle.hull.specs.Claims.{PathDemand, NeverEight, SelectsSmallest, Between, EnginePath, AfterEveryHistory}
use Rattle.hull.proofs.Histories.{history-claim, never-eight-claim, history-engine}
use Rattle.models.specs.Entries.{lists_in}
use Rattle.path.specs.declared.storage.Entry.{Entry}
use Rattle.demands.specs.EntryHistories.{EntryState, numbers_of, EntryStart, start_of}
use Rattle.demands.specs.EntryAnswers.{empty_entries, after_entry_call, BegunBy, ReachedBy, AfterEveryAnsweredHistory, AnsweredHistoryClaim, EntryNeverEight, EntryNeverEightClaim, EntryEnginePath, EntryEngineClaim, built_entries, EntryOriginClaim}
use Rattle.demands.specs.Origins.{Origin, state_of}
use Rattle.demands.specs.Signals.{state_with}
use Rattle.demands.proofs.Origins.{origin-claim}

-- The numbers of the state after a call are those of the state after the call on numbers.
after-numbers : (models : List Model) (x : EntryState) (r : PathResult) (y : List Entry)
    → numbers_of (after_entry_call models x r y) ≡ after_call models (numbers_of x) (path_outcome r (lists_in y))
after-numbers models x r y = by-test (eqb r.refusal 0)
  where
    left : ℕ → List Model → EntryState
    left n ms = record { list = y; entries = n; tests = x.tests + r.tests.count; models = ms }

    by-test : (b : Bool) → numbers_of (cond b (left r.entries models) (left x.entries x.models))
        ≡ cond b (numbers_of (left r.entries models)) (numbers_of (left x.entries x.models))
    by-test true = refl
    by-test false = refl

-- The numbers of what is reached are what the appends on numbers reach.
reached-is : (ms : List Model) (x z : EntryState) → ReachedBy x ms z → numbers_of z ≡ appends (numbers_of x) ms
unfolding appends
reached-is [] x z e = ap numbers_of (sym e)
reached-is (m ∷ ms) x z (r, y, allowed, rest) =
    let next = m ∷ x.models in
    reached-is ms (after_entry_call next x r y) z rest
    ∙ ap (λ (s : State). appends s ms) (after-numbers next x r y ∙ ap (after_call next (numbers_of x)) allowed)

-- What a history begins with are the numbers that one on numbers begins with.
begun-is : (start : EntryStart) (list : List Entry) (x : EntryState) → BegunBy start list x → numbers_of x ≡ begin (start_of start) (lists_in list)
unfolding begin
begun-is EntryStart.no_entries list x e = ap numbers_of (sym e)
begun-is (EntryStart.built_from models) list x (r, y, allowed, e) =
    let given = models_of (lists_in models) in
    ap numbers_of (sym e)
    ∙ after-numbers given (empty_entries list) r y
    ∙ ap (after_call given (numbers_of (empty_entries list))) allowed

-- What holds after every history of calls on numbers holds of the numbers after every history of calls on entries.
after-entries : (P : State → Type 0) → AfterEveryHistory P → AfterEveryAnsweredHistory (λ z. P (numbers_of z))
after-entries P claim start list ms x z b r =
    subst P (sym (reached-is ms x z r ∙ ap (λ (s : State). appends s ms) (begun-is start list x b)))
    (claim (start_of start) ms (lists_in list))

pub answered-history-claim : AnsweredHistoryClaim
answered-history-claim = after-entries PathDemand history-claim

-- What is allowed is what the call on numbers answers, so not 8.
entries-never-eight : (list : List Entry) (n : ℕ) → NeverEight (lists_in list) n → EntryNeverEight list n
entries-never-eight list n never =
    record {
      append = λ m a y e h. never.append m (sym (ap (λ (o : PathOutcome). o.refusal) e) ∙ h);
      select = λ p q a e h. never.select p q (sym (ap (λ (o : SelectResult). o.refusal) e) ∙ h);
      breakpoints = λ c d a c' d' e h. never.breakpoints c d (sym (ap (λ (o : BreakpointsOutcome). o.refusal) e) ∙ h);
    }

pub entry-never-eight-claim : EntryNeverEightClaim
entry-never-eight-claim start list ms x z b r =
    entries-never-eight z.list z.entries
    (after-entries (λ (s : State). NeverEight s.buffers s.entries) never-eight-claim start list ms x z b r)

-- Where the numbers hold a path of the engine's, the entries do.
entries-engine : (z : EntryState) → EnginePath (numbers_of z) → EntryEnginePath z
entries-engine z path =
    let t = lists_in z.list in
    let n = z.entries in
    record {
      winners = path.winners;
      falling = path.falling;
      never_eight = entries-never-eight z.list n path.never_eight;
      selections = λ p q r v e. subst (SelectsSmallest t n p q z.models) (sym e) (path.selections p q v);
      between = λ i p q r h v e. subst (λ (a : SelectResult). Between t n i p q a.index) (sym e) (path.between i p q h v);
    }

pub entry-engine-claim : EntryEngineClaim
entry-engine-claim start list ms x z b r some =
    entries-engine z
    (after-entries (λ (s : State). 1 ≤ length s.models → EnginePath s) history-engine start list ms x z b r some)

-- The numbers of the state after an accepted build by the older method are those of the state after the call on numbers.
pub entry-origin-claim : EntryOriginClaim
entry-origin-claim models list y r ms z allowed ok reached =
    let given = lists_in models in
    let older = Origin.older_build given (lists_in list) in
    let same : numbers_of (built_entries models r y) ≡ state_of older =
    λ i. let o = allowed i in state_with o.buffers o.entries (models_of given) in
    let path = origin-claim older (sym (ap (λ (o : PathOutcome). o.refusal) allowed) ∙ ok) ms in
    entries-engine z (subst EnginePath (sym (reached-is ms (built_entries models r y) z reached ∙ ap (λ (s : State). appends s ms) same)) path)
