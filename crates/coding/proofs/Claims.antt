-- From a call on numbers to the call over byte strings: on encoded numbers it is the call on these, encoded; an accepted one is the call
-- on numbers; and where what this leaves fits the items of its strings, it is got back from the bytes.
use mathlib.Core.Path.{◌≡◌, refl, ap, sym, ◌∙◌}
use mathlib.Core.Bool.{Bool, true, false, cond}
use mathlib.Core.Logic.{⊎_elim}
use Prim.Native.Nat.{ℕ, ◌+◌, ◌<◌}
use native.Mathlib.Nat.{eq-zero-or-pos}
use native.Mathlib.Omega.{arith}
use lib.Dec.{eqb}
use borrow.Author.Tests.{eqb-false, eq-eqb}
use Rattle.coding.specs.Coding.{Outcome, outcome, Answers, Coding, encoded_over, on_bytes}
use Rattle.coding.proofs.Calls.{eleven, whole-strings}
use Rattle.coding.proofs.Fitting.{Fitting}

-- What a call on numbers leaves, with its buffers as bytes.
abbrev pub encoded : {A : Type 0} (D : Coding) → Outcome A D.Numbers → Outcome A D.Strings
encoded D o = outcome o.answer (D.bytes o.buffers)

-- What a call over byte strings leaves, with its buffers decoded.
abbrev pub decoded : {A : Type 0} (D : Coding) → Outcome A D.Strings → Outcome A D.Numbers
decoded D o = outcome o.answer (D.numbers o.buffers)

-- A call that keeps its buffers where it is refused, on the bytes of numbers that fit, is the call on these numbers, encoded.
module _ {A : Type 0} (C D : Coding) (a : Answers A) (call : C.Numbers → D.Numbers → Outcome A D.Numbers) (s : C.Strings) (xs : D.Numbers) where
  abbrev onNumbers : Outcome A D.Numbers
  onNumbers = call (C.numbers s) xs

  kept-encoded : (t : Bool) → (t ≡ false → onNumbers.buffers ≡ xs) → cond t (D.bytes onNumbers.buffers) (D.bytes xs) ≡ D.bytes onNumbers.buffers
  kept-encoded true f = refl
  kept-encoded false f = ap D.bytes (sym (f refl))

  pub on-encoded : (F : Fitting D) → F.Fit xs → C.spare s ≡ 0 → ((a.number onNumbers.answer ≡ 0 → ⊥) → onNumbers.buffers ≡ xs)
      → on_bytes C D a call s (D.bytes xs) ≡ encoded D onNumbers
  on-encoded F fit whole keeps =
      let number = a.number onNumbers.answer in
      sym (whole-strings C D a call s (D.bytes xs) (omega (arith, F.none-spare xs)))
      ∙ (λ i. encoded_over D a (D.bytes xs) (call (C.numbers s) (F.fit-back xs fit i)))
      ∙ (λ i. outcome onNumbers.answer (kept-encoded (eqb number 0) (λ h. keeps (eqb-false number 0 h)) i))

-- A call over byte strings that is accepted.
module _ {A : Type 0} (C D : Coding) (a : Answers A) (call : C.Numbers → D.Numbers → Outcome A D.Numbers) (s : C.Strings) (b : D.Strings)
    (h : a.number (on_bytes C D a call s b).answer ≡ 0)
  where
    abbrev made : Outcome A D.Numbers
    made = call (C.numbers s) (D.numbers b)

    -- A call that is not refused finds whole items.
    none-spare : C.spare s + D.spare b ≡ 0
    none-spare =
        ⊎_elim
        (λ (e : C.spare s + D.spare b ≡ 0). e)
        (λ (g : 0 < C.spare s + D.spare b).
        let z : ◌≡◌ {A = ℕ} 11 0 =
        sym (a.numbered 11) ∙ ap (λ (o : Outcome A D.Strings). a.number o.answer) (eleven C D a call s b (λ e. omega arith)) ∙ h in
        absurd (omega arith))
        (eq-zero-or-pos (C.spare s + D.spare b))

    -- An accepted call is that on numbers, which is accepted too.
    pub accepted-too : a.number made.answer ≡ 0
    accepted-too = ap (λ (o : Outcome A D.Strings). a.number o.answer) (whole-strings C D a call s b none-spare) ∙ h

    pub accepted-encoded : encoded D made ≡ on_bytes C D a call s b
    accepted-encoded = (rw (eq-eqb (a.number made.answer) 0 accepted-too) refl) ∙ whole-strings C D a call s b none-spare

    -- Where what that leaves fits, its numbers are those of the strings.
    pub accepted-decoded : (F : Fitting D) → F.Fit made.buffers → decoded D (on_bytes C D a call s b) ≡ made
    accepted-decoded F f = ap (decoded D) (sym accepted-encoded) ∙ (λ i. outcome made.answer (F.fit-back made.buffers f i))
