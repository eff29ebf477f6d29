-- A build is refused for a model as its appends in turn are: at the first model whose append is refused, and under the same number.
use mathlib.Core.Path.{◌≡◌, refl, ap, sym, ◌∙◌}
use mathlib.Core.Bool.{Bool, true, false, false≢true}
use mathlib.Core.Logic.{inl, inr, ⊎_elim}
use mathlib.Core.List.{List, [], ◌∷◌, ◌++◌}
use Prim.Native.Nat.{ℕ, zero, suc, ◌+◌, ◌≤◌, ◌<◌}
use native.Mathlib.Nat.{eq-zero-or-pos, not-suc-le-zero, zero-add}
use native.Mathlib.Numerals.{add-one}
use native.Mathlib.Omega.{arith}
use lib.ListN.{length, get_or, get_or-eq_default}
use borrow.Author.Tests.{leb-true}
use Rattle.path.specs.Model.{Model, Lists, lengths, model_at, path_of}
use Rattle.path.specs.Update.{joined}
use Rattle.path.specs.Refusal.{Check, check, refusal_of, room_for, max_models, in_range, valid_path, model_checks}
use Rattle.path.specs.Append.{PathOutcome, append_of}
use Rattle.path.specs.Inner.{HasPlaces}
use Rattle.path.proofs.Checks.{check-passes, passed}
use Rattle.path.proofs.Order.{within, Passes, model-passes, model-accepted, out_of_range, places-parts, places-whole, places-fewer}
use Rattle.path.proofs.Buffers.{path-overwritten}
use Rattle.path.proofs.Cases.{append-refusal, append-accepted, input-refused, appendable}
use Rattle.build.specs.Build.{built, count_of, checks_at, list_checks}
use Rattle.build.proofs.Lists.{lacks-value, lacks-nothing, none_left, bad-model, good-model}
use Rattle.build.proofs.Cases.{bad-list, build-refusal}
use Rattle.hull.specs.History.{State, empty_state, after_append, appends, path_at}
use Rattle.hull.specs.Refusals.{FirstFailure}
use Rattle.hull.specs.Claims.{models_from, OfModel, AllAccepted, BadModel, BuildRefusalClaim}
use Rattle.hull.proofs.Slopes.{less-or-not}
use Rattle.hull.proofs.Orders.{path-refusals, failure-answers}
use Rattle.hull.proofs.Appends.{standing-empty, standing-appends}
use Rattle.hull.proofs.Builds.{Reached, reached-none, reached-next}

-- The number of a check of a model is none of the others of a build or of an append.
record NoOther (c : ℕ) : Type 0 where
  pub above : 2 < c
  pub not_eight : 8 ≡ c → ⊥
  pub not_nine : 9 ≡ c → ⊥

no_other : (c : ℕ) → OfModel c → NoOther c
no_other c (inl e) = record { above = omega arith; not_eight = λ f. omega arith; not_nine = λ f. omega arith }
no_other c (inr (inl e)) = record { above = omega arith; not_eight = λ f. omega arith; not_nine = λ f. omega arith }
no_other c (inr (inr (inl e))) = record { above = omega arith; not_eight = λ f. omega arith; not_nine = λ f. omega arith }
no_other c (inr (inr (inr e))) = record { above = omega arith; not_eight = λ f. omega arith; not_nine = λ f. omega arith }

-- A failure that is not that of the last check is one of those before it.
before_last : (cs : List Check) (d : Check) (c : ℕ) → (d.number ≡ c → ⊥) → FirstFailure (cs ++ (d ∷ [])) c → FirstFailure cs c
before_last [] d c other f = ⊎_elim (λ g. absurd (other g.1)) (λ g. g.1) f
before_last (e ∷ cs) d c other f = ⊎_elim inl (λ g. inr (g.0, before_last cs d c other g.1)) f

-- A value that is lacking is read as 0.
not-lacking : (values : List ℕ) (i : ℕ) → 1 ≤ get_or values i 0 → i < length values
not-lacking values i h =
    ⊎_elim (λ l. l) (λ (l : length values ≤ i). absurd (omega (arith, get_or-eq_default values 0 l))) (less-or-not i (length values))

-- The checks of model i.
module _ (a : Lists) where
  -- Where there is no loss for a model, its checks answer 5.
  no-loss : (i : ℕ) → length a.losses ≤ i → refusal_of (checks_at a i) ≡ 5
  no-loss i h = by-test (room_for (i + 1) (lengths a)) refl
    where
      by-test : (b : Bool) → room_for (i + 1) (lengths a) ≡ b → refusal_of (checks_at a i) ≡ 5
      by-test true f = absurd (omega (arith, (places-parts a (i + 1) f).in_losses))
      by-test false f = lacks-value a i f

  -- Where there is one, they answer as those of the model that is read do.
  some-loss : (i : ℕ) → i < length a.losses → refusal_of (checks_at a i) ≡ refusal_of (model_checks (built a i) (model_at a i))
  some-loss i h = by_tests (room_for (i + 1) (lengths a)) (in_range (model_at a i)) refl refl
    where
      by_tests : (b r : Bool) → room_for (i + 1) (lengths a) ≡ b → in_range (model_at a i) ≡ r → refusal_of (checks_at a i) ≡ refusal_of (model_checks (built a i) (model_at a i))
      by_tests true r f g = lacks-nothing a i f
      by_tests false false f g = lacks-value a i f ∙ sym (out_of_range (built a i) (model_at a i) g)
      by_tests false true f g =
          let w = within (model_at a i) g in
          let places : HasPlaces a (i + 1) = record { in_sizes = omega (arith, not-lacking a.sizes i w.positive); in_losses = omega arith; in_weights = omega (arith, not-lacking a.weights i w.weighs) } in
          absurd (false≢true (sym f ∙ places-whole a (i + 1) places))

  module _ (t : Lists) (c : ℕ) (other : NoOther c) where
    -- Of m models from i on the first that fails its checks comes after k more, and those k have losses and are all accepted.
    record Found (x : State) (i m : ℕ) : Type 0 where
      pub k : ℕ
      pub few : k < m
      pub losses : i + k ≤ length a.losses
      pub accepted : AllAccepted x (models_from a i k)
      pub reached : Reached a t (appends x (models_from a i k)) (i + k)
      pub refused : refusal_of (checks_at a (i + k)) ≡ c

    find : (m i : ℕ) (x : State) → Reached a t x i → HasPlaces t (i + m) → i + m ≤ max_models → i ≤ length a.losses → refusal_of (list_checks a i m) ≡ c → Found x i m
    unfolding appends
    find zero i x h fits most there e = absurd (omega (arith, none_left a i 0 refl, other.above))
    find (suc m) i x h fits most there e =
        ⊎_elim (on (find m (suc i) (after_append x (model_at a i)))) (λ (p : 0 < refusal_of (checks_at a i)). here (λ z. omega arith)) (eq-zero-or-pos (refusal_of (checks_at a i)))
      where
        here : (refusal_of (checks_at a i) ≡ 0 → ⊥) → Found x i (suc m)
        here ne =
            let z : i + 0 ≡ i = omega arith in
            record { k = 0; few = omega arith; losses = omega arith; accepted = tt; reached = rw z h; refused = rw z (sym (bad-model a i (suc m) _ (omega arith) refl ne) ∙ e) }

        on : (Reached a t (after_append x (model_at a i)) (suc i) → HasPlaces t (suc i + m) → suc i + m ≤ max_models → suc i ≤ length a.losses → refusal_of (list_checks a (suc i) m) ≡ c → Found (after_append x (model_at a i)) (suc i) m)
            → refusal_of (checks_at a i) ≡ 0 → Found x i (suc m)
        on later good =
            let checks = passed (check 5 (room_for (i + 1) (lengths a))) _ (omega arith) good in
            let passes = model-passes (built a i) (model_at a i) checks.1 in
            let next = reached-next a t x i h (places-fewer t (i + suc m) (i + 1) fits (omega arith)) (omega arith) passes in
            let r : i + suc m ≡ suc i + m = omega arith in
            let rest : refusal_of (list_checks a (suc i) m) ≡ c = rw add-one at (sym (good-model a i (suc m) m refl good) ∙ e) in
            let f = later next.1 (rw r at fits) (omega arith) (omega (arith, (places-parts a (i + 1) checks.0).in_losses)) rest in
            let s : i + suc f.k ≡ suc i + f.k = omega arith in
            record { k = suc f.k; few = omega (arith, f.few); losses = omega (arith, f.losses); accepted = (next.0, f.accepted); reached = rw s f.reached; refused = rw s f.refused }

    -- That model is bad, after a valid path of the models before it.
    is-bad : (x : State) (i : ℕ) → valid_path x.buffers x.entries ≡ true → path_at x ≡ built a i → refusal_of (checks_at a i) ≡ c → BadModel a x i c
    is-bad x i v path e =
        ⊎_elim
        (λ (l : i < length a.losses).
        let m = model_at a i in
        let fails : c ≡ refusal_of (model_checks (path_at x) m) = rw path (sym e ∙ some-loss i l) in
        let whole = fails ∙ sym (check-passes (check 8 (valid_path x.buffers x.entries)) (model_checks (path_at x) m) v) in
        inr (l, ap (λ (o : PathOutcome). o.refusal) (sym (input-refused x.buffers x.entries m c whole (λ z. omega (arith, other.above))))))
        (λ (l : length a.losses ≤ i). inl (l, sym e ∙ no-loss i l))
        (less-or-not i (length a.losses))

    -- A bad model fails its checks.
    bad-fails : (x : State) (i : ℕ) → path_at x ≡ built a i → BadModel a x i c → refusal_of (checks_at a i) ≡ c
    bad-fails x i path (inl g) = no-loss i g.0 ∙ sym g.1
    bad-fails x i path (inr g) =
        let m = model_at a i in
        let first = (path-refusals.append x.buffers x.entries m).in_order.refused_only_if c (omega (arith, other.above)) g.1 in
        let fails = ⊎_elim (λ f. absurd (other.not_eight f.1)) (λ f. before_last (model_checks (path_at x) m) _ c other.not_nine f.1) first in
        some-loss i g.0 ∙ rw path at (failure-answers (model_checks (path_at x) m) c fails)

    -- An accepted append leaves the path of one model more.
    path-next : (x : State) (i : ℕ) → path_at x ≡ built a i → (append_of x.buffers x.entries (model_at a i)).refusal ≡ 0
        → Passes (built a i) (model_at a i) × (path_at (after_append x (model_at a i)) ≡ built a (suc i))
    unfolding built
    path-next x i path e =
        let m = model_at a i in
        let checks = sym (append-refusal x.buffers x.entries m) ∙ e in (
          rw path at (appendable x.buffers x.entries m checks).input.passes,
          rw (append-accepted x.buffers x.entries m checks) (path-overwritten (joined (path_at x) m) x.entries x.buffers ∙ ap (λ (r : List Model). joined r m) path),
        )

    -- So m models from i on fail, of which k have losses and are accepted and the next one is bad.
    fails-from : (k m i : ℕ) (x : State) → path_at x ≡ built a i → k < m → i + k ≤ length a.losses → AllAccepted x (models_from a i k) → BadModel a (appends x (models_from a i k)) (i + k) c → refusal_of (list_checks a i m) ≡ c
    unfolding appends
    fails-from k zero i x path few losses g b = absurd (not-suc-le-zero few)
    fails-from zero (suc m) i x path few losses g b =
        let z : i + 0 ≡ i = omega arith in
        bad-model a i (suc m) c (omega arith) (bad-fails x i path (rw z at b)) (λ e. omega (arith, other.above))
    fails-from (suc k) (suc m) i x path few losses g b =
        let s : i + suc k ≡ suc i + k = omega arith in
        let next = path-next x i path g.0 in
        let later = fails-from k m (suc i) (after_append x (model_at a i)) next.1 (omega arith) (omega arith) g.1 (rw s at b) in
        let good = some-loss i (omega arith) ∙ model-accepted (built a i) (model_at a i) next.0 in
        good-model a i (suc m) m refl good ∙ rw add-one later

pub build-refusal-claim : BuildRefusalClaim
unfolding built path_of
build-refusal-claim =
    record {
      refused_only_if = λ a t u c h room e.
          let other = no_other c h in
          let n = count_of a in
          let first = (path-refusals.build a t).in_order.refused_only_if c (omega (arith, other.above)) e in
          let second = ⊎_elim (λ f. absurd (omega (arith, f.1, other.above))) (λ f. f.1) first in
          let few = ⊎_elim (λ f. absurd (omega (arith, f.1, other.above))) (λ f. leb-true n max_models f.0) second in
          let fails = ⊎_elim (λ f. absurd (omega (arith, f.1, other.above))) (λ f. before_last (list_checks a 0 n) _ c other.not_nine f.1) second in
          let found = find a u c other n 0 (empty_state u) (reached-none a u) (rw (zero-add n) (places-parts u n room)) (omega arith) (omega arith) (failure-answers (list_checks a 0 n) c fails) in
          let before = models_from a 0 found.k in
          let valid = (standing-appends before (empty_state u) (standing-empty u)).valid in
          let z = zero-add found.k in
          let bad = is-bad a u c other (appends (empty_state u) before) found.k valid (rw z at found.reached.holds.held.is) (rw z at found.refused) in
          (found.k, record { inside = found.few; losses_there = rw z at found.losses; earlier_accepted = found.accepted; bad = bad });
      refused_if = λ a t u i c h few b.
          let other = no_other c h in
          let n = count_of a in
          let fails = fails-from a u c other i n 0 (empty_state u) refl b.inside (omega (arith, b.losses_there)) b.earlier_accepted (rw (zero-add i) b.bad) in
          build-refusal a t ∙ bad-list a (lengths t) n (λ z. omega (arith, b.inside)) few c (sym fails) (λ z. omega (arith, other.above));
    }
