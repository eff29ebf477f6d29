-- The weights of a form: how they are judged, and what is printed after them.
use mathlib.Core.Path.{◌≡◌, refl, sym, ap, ◌∙◌}
use mathlib.Core.Bool.{cond}
use mathlib.Core.List.{List, [], ◌∷◌, ◌++◌}
use Prim.Native.Nat.{ℕ, ◌≤◌, ◌<◌}
use native.Mathlib.Omega.{arith}
use lib.Dec.{leb, eqb}
use lib.IntN.{ℤ}
use lib.ListN.{length, get_or, take, drop, length-append}
use mathlib.Core.Logic.{⊎_elim}
use native.Mathlib.Nat.{eq-zero-or-pos}
use borrow.Author.Tests.{leb-true, lt-leb, le-leb, ne_eqb, eqb-true}
use Rattle.path.specs.Numbers.{number_of}
use Rattle.path.specs.Refusal.{check, by_checks, refusal_of}
use Rattle.path.specs.declared.refusal.Refusal.{Refusal}
use Rattle.path.proofs.Checks.{both, passed, refuses, accepts, check-fails, check-passes}
use Rattle.path.proofs.Cuts.{le-or-lt}
use Rattle.least.specs.Segmentation.{max_segments}
use Rattle.weights.specs.Weights.{weight_checks, all_in_range, rising, fitting}
use Rattle.weights.specs.Inner.{folded}
use Rattle.weights.proofs.Steps.{some_fit, weighs, sizes-weigh}
use Rattle.weights.proofs.Folds.{folded-few, folded-checks}
use Rattle.report.specs.Forms.{weights, form_of}
use Rattle.report.specs.Lines.{refusal_line}
use Rattle.report.specs.Report.{limited, Turn, goes, stops, form_checks, weights_turn, printed}
use Rattle.report.specs.Inner.{report_on, PathAhead, LineAhead, WeightsAre, WeightsPass, WeightsAt}
use Rattle.report.proofs.Layouts.{any-stops}
use Rattle.report.proofs.Turns.{stopped, number-some}

-- The checks of a form without weights, and of one with weights.
module _ (ws : List ℕ) (k : ℕ) where
  pub checks-none : length ws ≡ 0 → 14 ≡ refusal_of (form_checks ws k)
  checks-none h = sym (check-fails (check 14 (leb 1 (length ws))) (weight_checks ws k) (lt-leb 1 (length ws) (omega arith)))

  pub checks-some : (length ws ≡ 0 → ⊥) → refusal_of (weight_checks ws k) ≡ refusal_of (form_checks ws k)
  checks-some h = sym (check-passes (check 14 (leb 1 (length ws))) (weight_checks ws k) (le-leb 1 (length ws) (omega arith)))

  -- The first weights are judged by them.
  pub turn-checks : (xs : List ℤ) → weights_turn xs k [] (weights ws) ≡ by_checks (form_checks ws k) stops (goes [] (limited xs k ws))
  unfolding weights_turn by_checks refusal_of
  turn-checks xs = refl

  module _ (more : List ℕ) where
    -- They are refused.
    pub taken-refused : (r : Refusal) → number_of r ≡ refusal_of (form_checks ws k)
        → (xs : List ℤ) → printed (weights_turn xs k [] (weights ws)) (λ t. report_on t more) ≡ refusal_line (number_of r)
    taken-refused r e xs =
        stopped _ (number_of r) _ (turn-checks xs ∙ sym (refuses (form_checks ws k) stops (goes [] (limited xs k ws)) (number_of r) e (number-some r)))

    -- They are accepted, and so there is one.
    module _ (e : 0 ≡ refusal_of (form_checks ws k)) where
      some : 1 ≤ length ws
      some = leb-true 1 (length ws) (passed (check 14 (leb 1 (length ws))) (weight_checks ws k) (omega arith) (sym e)).0

      goes_on : (xs : List ℤ) → printed (weights_turn xs k [] (weights ws)) (λ t. report_on t more) ≡ report_on (limited xs k ws) more
      unfolding printed
      goes_on xs =
          ap (λ (u : Turn). printed u (λ t. report_on t more))
          (turn-checks xs ∙ sym (accepts (form_checks ws k) stops (goes [] (limited xs k ws)) (sym e)))

      -- The path comes next.
      pub taken : PathAhead more → WeightsPass ws k more
      taken h =
          record {
            found = λ xs. goes_on xs ∙ h xs k ws;
            weighable = λ few. weighs ws k (passed (check 14 (leb 1 (length ws))) (weight_checks ws k) (omega arith) (sym e)).1 (omega arith);
          }

      -- A line that is refused comes next.
      pub taken-off : (n : ℕ) → ((xs : List ℤ) (k : ℕ) (ws : List ℕ) → report_on (limited xs k ws) more ≡ refusal_line n)
          → (xs : List ℤ) → printed (weights_turn xs k [] (weights ws)) (λ t. report_on t more) ≡ refusal_line n
      taken-off n h xs = goes_on xs ∙ h xs k ws

      -- A line comes next that is no note, and no other weights are due.
      second-stops : (xs : List ℤ) (vs : List ℕ) → weights_turn xs k ws (weights vs) ≡ stops 11
      unfolding weights_turn
      second-stops xs vs =
          let none : length ws ≡ 0 → ⊥ = λ z. omega (arith, some) in
          let checks = check 11 (eqb (length ws) 0) in
          sym (refuses (checks ∷ form_checks vs k) stops (goes [] (limited xs k vs)) 11
          (sym (check-fails checks (form_checks vs k) (ne_eqb (length ws) 0 none))) (λ z. omega arith))

      others-stop : (xs : List ℤ) (l next : List ℕ) → LineAhead more l next → weights_turn xs k ws (form_of l) ≡ stops 11
      unfolding weights_turn
      others-stop xs l next h =
          any-stops (weights_turn xs k ws) refl (λ ys. refl) (λ m. refl) (second-stops xs) (λ p q. refl) l h.no_note

      pub taken-line : (l next : List ℕ) → LineAhead more l next
          → (xs : List ℤ) → printed (weights_turn xs k [] (weights ws)) (λ t. report_on t more) ≡ refusal_line 11
      taken-line l next h xs = goes_on xs ∙ h.goes_on xs k ws ∙ stopped _ 11 _ (others-stop xs l next h)

-- What is kept of weights is judged as they are.
module _ (ws : List ℕ) (k : ℕ) (few : k ≤ max_segments) where
  abbrev kept : List ℕ
  kept = folded max_segments ws

  some_kept : leb 1 (length kept) ≡ leb 1 (length ws)
  unfolding folded
  some_kept =
      ⊎_elim
      (λ (h : length ws ≤ max_segments). rw (le-leb (length ws) max_segments h) refl)
      (λ (h : max_segments < length ws).
      let ks = take max_segments ws in
      let z = cond (all_in_range (drop max_segments ws)) (get_or ws max_segments 0) 0 in
      let one = le-leb 1 (length (ks ++ (z ∷ []))) (omega (arith, length-append ks (z ∷ []))) in
      rw (lt-leb (length ws) max_segments h) (one ∙ sym (le-leb 1 (length ws) (omega arith))))
      (le-or-lt (length ws) max_segments)

  kept-checks : refusal_of (form_checks kept k) ≡ refusal_of (form_checks ws k)
  unfolding refusal_of
  kept-checks = rw (some_kept, folded-checks max_segments ws k few) refl

  -- Accepted weights are as many as the limit, and so all of them are kept.
  kept-all : refusal_of (form_checks ws k) ≡ 0 → kept ≡ ws
  kept-all e =
      let p = passed (check 14 (leb 1 (length ws))) (weight_checks ws k) (omega arith) e in
      let some = leb-true 1 (length ws) p.0 in
      let fits = (passed (check 14 (fitting ws k)) [] (omega arith) (passed (check 5 (all_in_range ws)) _ (omega arith) p.1).1).0 in
      let counted = (both (eqb (length ws) k) (rising ws) (sym (some_fit ws k (λ z. omega arith)) ∙ fits)).0 in
      folded-few max_segments ws (omega (arith, eqb-true (length ws) k counted))

  turn-kept : (xs : List ℤ) → weights_turn xs k [] (weights kept) ≡ weights_turn xs k [] (weights ws)
  turn-kept xs =
      ⊎_elim
      (λ (z : refusal_of (form_checks ws k) ≡ 0). ap (λ (l : List ℕ). weights_turn xs k [] (weights l)) (kept-all z))
      (λ (z : 0 < refusal_of (form_checks ws k)).
      let not : refusal_of (form_checks ws k) ≡ 0 → ⊥ = λ y. omega arith in
      turn-checks kept k xs
      ∙ sym (refuses (form_checks kept k) stops _ _ (sym kept-checks) not)
      ∙ refuses (form_checks ws k) stops _ _ refl not
      ∙ sym (turn-checks ws k xs))
      (eq-zero-or-pos (refusal_of (form_checks ws k)))

-- The weights that the input goes on with: none, or those of a line, or a refusal.
module _ (input buffer : List ℕ) (k : ℕ) (few : k ≤ max_segments) where
  pub found_none : PathAhead input → WeightsAt input buffer k 0 input
  found_none h =
      record { found = λ xs. h xs k []; weighable = sizes-weigh k (omega arith); in_buffer = omega arith; shorter = omega arith }

  -- A line whose form is weights that are kept at the front of the buffer.
  module _ (l more : List ℕ) (n : ℕ) (h : LineAhead input l more) (f : WeightsAre (form_of l) buffer n) where
    line-goes : (xs : List ℤ) → report_on (limited xs k []) input
        ≡ printed (weights_turn xs k [] (weights (take n buffer))) (λ s. report_on s more)
    line-goes xs = h.goes_on xs k [] ∙ rw (f.form, f.are) (ap (λ (u : Turn). printed u (λ s. report_on s more)) (sym (turn-kept f.all k few xs)))

    pub found-refused : (m : ℕ) → ((xs : List ℤ) → printed (weights_turn xs k [] (weights (take n buffer))) (λ t. report_on t more) ≡ refusal_line m)
        → (xs : List ℤ) → report_on (limited xs k []) input ≡ refusal_line m
    found-refused m e xs = line-goes xs ∙ e xs

    pub found-line : WeightsPass (take n buffer) k more → WeightsAt input buffer k n more
    found-line t =
        record { found = λ xs. line-goes xs ∙ t.found xs; weighable = t.weighable few; in_buffer = f.in_buffer; shorter = h.shorter }

  -- A line whose form is none.
  pub found-other : (l more : List ℕ) → LineAhead input l more
      → ((xs : List ℤ) (k : ℕ) (ws : List ℕ) → weights_turn xs k ws (form_of l) ≡ stops 11)
      → (xs : List ℤ) → report_on (limited xs k []) input ≡ refusal_line 11
  found-other l more h o xs = h.goes_on xs k [] ∙ stopped _ 11 _ (o xs k [])
