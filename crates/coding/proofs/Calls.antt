-- What a function over byte strings owes: it answers 11 where bytes are left over, and else it reads the first items of each string,
-- makes the call on them, and where that is accepted writes them back. That this is the call over the whole strings takes one fact of
-- the call on numbers (`Cut`), which `cut_by` gives for a call by its checks. A call may also be made in lists of its own.
use mathlib.Core.Path.{◌≡◌, refl, ap, sym, ◌∙◌}
use mathlib.Core.Bool.{Bool, true, false, cond}
use mathlib.Core.List.{List, [], ◌∷◌}
use Prim.Native.Nat.{ℕ, ◌+◌}
use native.Mathlib.Omega.{arith}
use lib.Dec.{eqb}
use borrow.Author.Tests.{eqb-false, ne_eqb}
use Rattle.path.specs.Refusal.{Check, check, refusal_of, by_checks}
use Rattle.path.proofs.Checks.{check-fails, last-passes, refuses, accepts}
use Rattle.path.proofs.Cuts.{by-checks-cut}
use Rattle.coding.specs.Coding.{Outcome, outcome, Answers, Coding, encoded_over, on_bytes}
use Rattle.coding.proofs.Cutting.{Cutting, nothing_left}

-- A call of what it only reads, coded by C, and of its buffers, coded by D, on the strings s and b.
module _ {A : Type 0} (C D : Coding) (a : Answers A) (call : C.Numbers → D.Numbers → Outcome A D.Numbers) (s : C.Strings) (b : D.Strings) where
  abbrev checked : List Check
  checked = check 11 (eqb (C.spare s + D.spare b) 0) ∷ []

  abbrev made : Outcome A D.Strings
  made = encoded_over D a b (call (C.numbers s) (D.numbers b))

  -- Bytes left over are refused under 11.
  pub eleven : (C.spare s + D.spare b ≡ 0 → ⊥) → outcome (a.refused 11) b ≡ on_bytes C D a call s b
  unfolding on_bytes
  eleven h =
      refuses checked (λ n. outcome (a.refused n) b) made 11
      (sym (check-fails (check 11 (eqb (C.spare s + D.spare b) 0)) [] (ne_eqb (C.spare s + D.spare b) 0 h)))
      (λ z. omega arith)

  -- With none left over it is the call on numbers.
  pub whole-strings : C.spare s + D.spare b ≡ 0 → made ≡ on_bytes C D a call s b
  unfolding on_bytes
  whole-strings h =
      accepts checked (λ n. outcome (a.refused n) b) made
      (last-passes (check 11 (eqb (C.spare s + D.spare b) 0)) (ap (λ (n : ℕ). eqb n 0) h))

-- What a call on the numbers leaves, o, as a call that works on the bytes leaves it: the strings as they were, or the bytes of the
-- buffers.
module _ {A : Type 0} (D : Coding) (a : Answers A) (b : D.Strings) (o : Outcome A D.Numbers) where
  pub encoded-refused : (n : ℕ) → (n ≡ 0 → ⊥) → (xs : D.Numbers) → outcome (a.refused n) xs ≡ o → outcome (a.refused n) b ≡ encoded_over D a b o
  encoded-refused n h xs e =
      let fails : eqb (a.number (a.refused n)) 0 ≡ false = ap (λ (k : ℕ). eqb k 0) (a.numbered n) ∙ ne_eqb n 0 h in
      (λ i. outcome (a.refused n) (cond (sym fails i) (D.bytes xs) b)) ∙ ap (encoded_over D a b) e

  pub encoded-accepted : (r : A) → a.number r ≡ 0 → (xs : D.Numbers) → outcome r xs ≡ o → (y : D.Strings) → y ≡ D.bytes xs → outcome r y ≡ encoded_over D a b o
  encoded-accepted r z xs e y f =
      let holds : eqb (a.number r) 0 ≡ true = ap (λ (k : ℕ). eqb k 0) z in
      (λ i. outcome r (f i)) ∙ (λ i. outcome r (cond (sym holds i) (D.bytes xs) b)) ∙ ap (encoded_over D a b) e

-- What a call leaves by its checks, told in other words.
pub told : {O A : Type 0} (f : O → A) (checks : List Check) (refused : ℕ → O) (accepted : O)
    → f (by_checks checks refused accepted) ≡ by_checks checks (λ n. f (refused n)) (f accepted)
unfolding by_checks
told f checks refused accepted = by-test (eqb (refusal_of checks) 0)
  where
    by-test : (t : Bool) → f (cond t accepted (refused (refusal_of checks))) ≡ cond t (f accepted) (f (refused (refusal_of checks)))
    by-test true = refl
    by-test false = refl

-- A call by its checks keeps its buffers where it is refused.
refused-keeps : {A B : Type 0} (a : Answers A) (checks : List Check) (accepted : Outcome A B) (b : B) → a.number accepted.answer ≡ 0
    → (let o = by_checks checks (λ n. outcome (a.refused n) b) accepted in (a.number o.answer ≡ 0 → ⊥) → o.buffers ≡ b)
unfolding by_checks
refused-keeps a checks accepted b ok = by-test (eqb (refusal_of checks) 0)
  where
    by-test : (t : Bool) → (let o = cond t accepted (outcome (a.refused (refusal_of checks)) b) in (a.number o.answer ≡ 0 → ⊥) → o.buffers ≡ b)
    by-test true h = absurd (h ok)
    by-test false h = refl

module _ {A : Type 0} {C D : Coding} (P : Cutting C) (Q : Cutting D) (a : Answers A) where
  -- What a call leaves of the first items, with the rest of the buffers after it.
  abbrev pub longer : D.Numbers → Outcome A D.Numbers → Outcome A D.Numbers
  longer b o = outcome o.answer (Q.rejoined b o.buffers)

  -- A call on xs and b leaves what it leaves of the first items, with the rest after it, and of these it changes none where it is refused.
  pub record Cut (call : C.Numbers → D.Numbers → Outcome A D.Numbers) (xs : C.Numbers) (b : D.Numbers) : Type 0 where
    pub cut : call xs b ≡ longer b (call (P.taken xs) (Q.taken b))
    pub keeps : (a.number (call (P.taken xs) (Q.taken b)).answer ≡ 0 → ⊥) → (call (P.taken xs) (Q.taken b)).buffers ≡ Q.taken b

  module _ (call : C.Numbers → D.Numbers → Outcome A D.Numbers) where
    -- A call by its checks does if these say the same of the first items, and if what is left where they pass is left there.
    pub cut_by : (checks : C.Numbers → D.Numbers → List Check) (accepted : C.Numbers → D.Numbers → Outcome A D.Numbers)
        → ((xs : C.Numbers) (b : D.Numbers) → call xs b ≡ by_checks (checks xs b) (λ n. outcome (a.refused n) b) (accepted xs b))
        → ((xs : C.Numbers) (b : D.Numbers) → a.number (accepted xs b).answer ≡ 0)
        → (xs : C.Numbers) (b : D.Numbers) → refusal_of (checks (P.taken xs) (Q.taken b)) ≡ refusal_of (checks xs b)
        → (refusal_of (checks xs b) ≡ 0 → accepted xs b ≡ longer b (accepted (P.taken xs) (Q.taken b))) → Cut call xs b
    cut_by checks accepted is zero xs b same-checks same_left =
        let ys = P.taken xs in
        let d = Q.taken b in
        let refused : D.Numbers → ℕ → Outcome A D.Numbers = λ e n. outcome (a.refused n) e in
        record {
          cut =
              is xs b
              ∙ by-checks-cut (longer b) (checks xs b) (checks ys d) (refused b) (refused d) (accepted xs b) (accepted ys d)
              same-checks (λ n i. refused (Q.parts b i) n) same_left
              ∙ ap (longer b) (sym (is ys d));
          keeps = λ h.
              ap (λ (o : Outcome A D.Numbers). o.buffers) (is ys d)
              ∙ refused-keeps a (checks ys d) (accepted ys d) d (zero ys d)
              (λ z. h (ap (λ (o : Outcome A D.Numbers). a.number o.answer) (is ys d) ∙ z));
        }

    -- On strings of whole items, lists as long as what is looked at are read, the call is made on them, and where it is accepted they are
    -- written over the front of the buffers.
    module _ (s : C.Strings) (b : D.Strings) (whole : C.spare s + D.spare b ≡ 0) (held : D.Held b) (c : Cut call (C.numbers s) (D.numbers b))
        (xs : C.Numbers) (ys after : D.Numbers) (answer : A) (is : outcome answer after ≡ call (P.read s xs) (Q.read b ys))
        (xs-fit : P.Fits s xs) (ys-fit : Q.Fits b ys) (after-fits : Q.Fits b after) where
      abbrev front : Outcome A D.Numbers
      front = call (P.taken (C.numbers s)) (Q.taken (D.numbers b))

      on-front : outcome answer after ≡ front
      on-front = is ∙ (λ i. call (P.reads s xs xs-fit i) (Q.reads b ys ys-fit i))

      by-refusal : (t : Bool) → (t ≡ false → a.number answer ≡ 0 → ⊥) → Q.left t b after ≡ cond t (D.bytes (Q.rejoined (D.numbers b) after)) b
      by-refusal true f = Q.writes b held (nothing_left (C.spare s) (D.spare b) whole).1 after after-fits
      by-refusal false f =
          let same : after ≡ Q.taken (D.numbers b) =
          ap (λ (o : Outcome A D.Numbers). o.buffers) on-front
          ∙ c.keeps (λ z. f refl (ap (λ (o : Outcome A D.Numbers). a.number o.answer) on-front ∙ z)) in
          ap (Q.left false b) same ∙ Q.stays b

      -- That is the call over the strings.
      pub returned : (final : D.Strings) → final ≡ Q.left (eqb (a.number answer) 0) b after → outcome answer final ≡ on_bytes C D a call s b
      returned final e =
          (λ i. outcome answer ((e ∙ by-refusal (eqb (a.number answer) 0) (eqb-false (a.number answer) 0)) i))
          ∙ (λ i. encoded_over D a b (longer (D.numbers b) (on-front i)))
          ∙ ap (encoded_over D a b) (sym c.cut)
          ∙ whole-strings C D a call s b whole

      -- So it is where the caller has looked at the refusal.
      pub returned-as : (t : Bool) → eqb (a.number answer) 0 ≡ t → (final : D.Strings) → final ≡ Q.left t b after → outcome answer final ≡ on_bytes C D a call s b
      returned-as t e final f = returned final (f ∙ (λ i. Q.left (sym e i) b after))

-- A call that was made in other lists than the buffers, and answered as the call on the numbers does.
module _ {A : Type 0} (C D : Coding) (a : Answers A) (call : C.Numbers → D.Numbers → Outcome A D.Numbers) (s : C.Strings) (b : D.Strings)
    (whole : C.spare s + D.spare b ≡ 0) (answer : A) where
  -- Where it is refused, the strings stay.
  pub strings-stay : (a.number answer ≡ 0 → ⊥) → outcome answer (D.numbers b) ≡ call (C.numbers s) (D.numbers b) → outcome answer b ≡ on_bytes C D a call s b
  strings-stay h is =
      let e = ne_eqb (a.number answer) 0 h in
      (λ i. outcome answer (cond (sym e i) (D.bytes (D.numbers b)) b)) ∙ ap (encoded_over D a b) is ∙ whole-strings C D a call s b whole

  -- Where it is accepted, what it leaves is written over their front.
  pub strings-written : a.number answer ≡ 0 → D.Held b → (Q : Cutting D) (after : D.Numbers)
      → outcome answer (Q.rejoined (D.numbers b) after) ≡ call (C.numbers s) (D.numbers b)
      → Q.Fits b after → (final : D.Strings) → final ≡ Q.left true b after → outcome answer final ≡ on_bytes C D a call s b
  strings-written z held Q after is fits final e =
      let written = e ∙ Q.writes b held (nothing_left (C.spare s) (D.spare b) whole).1 after fits in
      (λ i. outcome answer (written i))
      ∙ (λ i. outcome answer (cond (eqb (sym z i) 0) (D.bytes (Q.rejoined (D.numbers b) after)) b))
      ∙ ap (encoded_over D a b) is
      ∙ whole-strings C D a call s b whole
