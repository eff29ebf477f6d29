-- The scan of a path in lists of losses and weights, a turn at a time. The first i entries keep what the whole path keeps, and the tests
-- made so far with those still to come are the path's.
use mathlib.Core.Path.{◌≡◌, refl, ap, sym, ◌∙◌}
use mathlib.Core.Bool.{Bool, true, false}
use mathlib.Core.List.{List, [], ◌∷◌}
use Prim.Native.Nat.{ℕ, zero, suc, ◌+◌, ◌-◌, ◌≤◌, ◌<◌}
use native.Mathlib.Omega.{arith}
use lib.Dec.{eqb}
use lib.ListN.{length, get_or}
use Rattle.path.specs.Model.{model, lists, model_at, path_of}
use Rattle.path.specs.Update.{below, breakpoint, holds, kept, tests_made, passed_over}
use Rattle.path.specs.Inner.{Comparable, Scannable, PassesOver, TestsLast, tally_of, kept_of}
use Rattle.path.specs.declared.tally.Tally.{Tally}
use Rattle.path.proofs.Paths.{keeps-all, drops-last, first_holds, first-not-dropped, later-holds}

-- After an empty path nothing is passed over, and else the last loss decides.
pub none_passed : (losses : List ℕ) (n loss : ℕ) → n ≡ 0 → PassesOver losses n loss false
unfolding path_of passed_over
none_passed losses n loss e s w k v = rw e

pub passed-by-last : (losses : List ℕ) (n b loss : ℕ) → n ≡ suc b → PassesOver losses n loss (eqb loss (get_or losses b 0))
unfolding path_of passed_over
passed-by-last losses n b loss e s w k v = rw e

-- The scan of n entries has come to the first i, with so many tests made.
pub record Scanned (losses weights : List ℕ) (n loss weight start i tests : ℕ) : Type 0 where
  pub some : 1 ≤ i
  pub within : i ≤ n
  pub counted : tests + i ≡ start + n
  pub keeps : (s : List ℕ) (k : ℕ)
      → (length (kept (path_of (lists s losses weights) i) (model k loss weight)) ≡ length (kept (path_of (lists s losses weights) n) (model k loss weight)))
      × (tests + tests_made (path_of (lists s losses weights) i) (model k loss weight) ≡ start + tests_made (path_of (lists s losses weights) n) (model k loss weight))

module _ (losses weights : List ℕ) (n loss weight start : ℕ) where
  pub scan-start : 1 ≤ n → Scanned losses weights n loss weight start n start
  scan-start h = record { some = h; within = omega arith; counted = refl; keeps = λ s k. (refl, refl) }

  module _ (i tests : ℕ) (at : Scanned losses weights n loss weight start i tests) where
    -- What the test at the last of them asks for.
    pub scan-asks : Scannable losses weights n loss weight start → (1 ≤ i) × Scannable losses weights i loss weight tests
    scan-asks h = (
      at.some,
      record {
        in_losses = omega (arith, h.in_losses, at.within);
        in_weights = omega (arith, h.in_weights, at.within);
        countable = omega (arith, h.countable, at.counted);
        near = λ j p. h.near j (omega (arith, at.within));
      },
    )

    module _ (r : Bool) (tested : TestsLast losses weights (i - 1) loss weight r) where
      -- Where it fails, the scan goes on.
      pub scan-on : r ≡ false → (more : ℕ) → more ≡ tests + 1 → Scanned losses weights n loss weight start (i - 1) more
      scan-on f more e =
          let fails : (s : List ℕ) (k : ℕ) → holds (path_of (lists s losses weights) (i - 1)) (model_at (lists s losses weights) (i - 1)) (model k loss weight) ≡ false = λ s k. sym (tested s k) ∙ f in
          let two = first-not-dropped (lists [] losses weights) (model 0 loss weight) (i - 1) (fails [] 0) in
          record {
            some = two;
            within = omega (arith, at.within);
            counted = omega (arith, at.counted, at.some);
            keeps = λ s k.
                let g = drops-last (lists s losses weights) (model k loss weight) i (i - 1) (omega (arith, at.some)) (fails s k) in
                (sym (ap length g.0) ∙ (at.keeps s k).0, omega (arith, g.1, (at.keeps s k).1));
          }

      -- Where it holds, these entries stay.
      pub scan-ends : r ≡ true → (t : Tally) → t ≡ tally_of (tests + 1) → (s : List ℕ) (k : ℕ)
          → record { entries = i; tests = t } ≡ kept_of (path_of (lists s losses weights) n) (model k loss weight) start
      scan-ends h t e s k =
          let u = lists s losses weights in
          let m = model k loss weight in
          let g = keeps-all u m i (i - 1) (omega (arith, at.some)) (sym (tested s k) ∙ h) in
          let stay : i ≡ length (kept (path_of u n) m) = omega (arith, g.0, (at.keeps s k).0) in
          let all : tests + 1 ≡ start + tests_made (path_of u n) m = omega (arith, g.1, (at.keeps s k).1) in
          let made : t ≡ tally_of (start + tests_made (path_of u n) m) = e ∙ ap tally_of all in
          λ j. record { entries = stay j; tests = made j }

-- The test at a first entry goes by no other.
pub tests-first : (losses weights : List ℕ) (n l w loss weight : ℕ) (r : Bool) → n ≡ 0 → TestsLast (l ∷ []) (w ∷ []) 0 loss weight r → TestsLast losses weights n loss weight r
tests-first losses weights n l w loss weight r e tested s k =
    tested s k
    ∙ first_holds (lists s (l ∷ []) (w ∷ [])) (model_at (lists s (l ∷ []) (w ∷ [])) 0) (model k loss weight) refl
    ∙ sym (first_holds (lists s losses weights) (model_at (lists s losses weights) n) (model k loss weight) e)

-- The test at a later entry n goes by it and by the one before, a, whose losses and weights may stand in lists of two.
module _ (losses weights : List ℕ) (a n : ℕ) (e : n ≡ suc a) (l₀ l₁ w₀ w₁ : ℕ)
    (l₀-is : l₀ ≡ get_or losses a 0) (l₁-is : l₁ ≡ get_or losses n 0) (w₀-is : w₀ ≡ get_or weights a 0) (w₁-is : w₁ ≡ get_or weights n 0) (loss weight : ℕ) where
  pub tests-later : (r : Bool) → TestsLast (l₀ ∷ l₁ ∷ []) (w₀ ∷ w₁ ∷ []) 1 loss weight r → TestsLast losses weights n loss weight r
  tests-later r tested s k =
      let t = lists s losses weights in
      let m = model k loss weight in
      let two = lists (get_or s a 0 ∷ get_or s n 0 ∷ []) (l₀ ∷ l₁ ∷ []) (w₀ ∷ w₁ ∷ []) in
      let first : model_at two 0 ≡ model_at t a = λ i. model (get_or s a 0) (l₀-is i) (w₀-is i) in
      let second : model_at two 1 ≡ model_at t n = λ i. model (get_or s n 0) (l₁-is i) (w₁-is i) in
      tested (get_or s a 0 ∷ get_or s n 0 ∷ []) k
      ∙ later-holds two (model_at two 1) m 1 0 refl
      ∙ (λ i. below (breakpoint (second i) m) (breakpoint (first i) (second i)))
      ∙ sym (later-holds t (model_at t n) m n a e)

  pub two-scannable : (tests : ℕ) → Scannable losses weights (suc n) loss weight tests → Scannable (l₀ ∷ l₁ ∷ []) (w₀ ∷ w₁ ∷ []) 2 loss weight tests
  two-scannable tests h =
      let near : Comparable (get_or losses a 0) (get_or weights a 0) (get_or losses (suc a) 0) (get_or weights (suc a) 0) loss weight = h.near a (omega arith) in
      let at_n : Comparable (get_or losses a 0) (get_or weights a 0) (get_or losses n 0) (get_or weights n 0) loss weight = rw e near in
      record {
        in_losses = omega arith;
        in_weights = omega arith;
        countable = omega (arith, h.countable);
        near = λ i p. by_place i p (rw (l₀-is, l₁-is, w₀-is, w₁-is) at_n);
      }
    where
      by_place : (i : ℕ) → suc i < 2 → Comparable l₀ w₀ l₁ w₁ loss weight → Comparable (get_or (l₀ ∷ l₁ ∷ []) i 0) (get_or (w₀ ∷ w₁ ∷ []) i 0) (get_or (l₀ ∷ l₁ ∷ []) (suc i) 0) (get_or (w₀ ∷ w₁ ∷ []) (suc i) 0) loss weight
      by_place zero p c = c
      by_place (suc i) p c = absurd (omega arith)
