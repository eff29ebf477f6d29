-- A call over byte strings that answers another number than 11 finds whole items, and answers what the call on numbers does.
use mathlib.Core.Path.{◌≡◌, ap, sym, ◌∙◌}
use mathlib.Core.Logic.{⊎_elim}
use Prim.Native.Nat.{ℕ, ◌+◌, ◌<◌}
use native.Mathlib.Nat.{eq-zero-or-pos}
use native.Mathlib.Omega.{arith}
use Rattle.coding.specs.Coding.{Outcome, Answers, Coding, on_bytes}
use Rattle.coding.proofs.Calls.{eleven, whole-strings}

module _ {A : Type 0} (C D : Coding) (a : Answers A) (call : C.Numbers → D.Numbers → Outcome A D.Numbers) (s : C.Strings) (b : D.Strings) where
  none-spare : (c : ℕ) → (11 ≡ c → ⊥) → a.number (on_bytes C D a call s b).answer ≡ c → C.spare s + D.spare b ≡ 0
  none-spare c other h =
      ⊎_elim
      (λ (e : C.spare s + D.spare b ≡ 0). e)
      (λ (g : 0 < C.spare s + D.spare b).
      absurd
      (other
      (sym (a.numbered 11) ∙ ap (λ (o : Outcome A D.Strings). a.number o.answer) (eleven C D a call s b (λ e. omega arith)) ∙ h)))
      (eq-zero-or-pos (C.spare s + D.spare b))

  pub answered-too : (c : ℕ) → (11 ≡ c → ⊥) → a.number (on_bytes C D a call s b).answer ≡ c → a.number (call (C.numbers s) (D.numbers b)).answer ≡ c
  answered-too c other h =
      ap (λ (o : Outcome A D.Strings). a.number o.answer) (whole-strings C D a call s b (none-spare c other h)) ∙ h
