-- The text of two numbers by its length, and the text of a level by its size.
use Rattle.std.proofs.Common.{◌≡◌, refl, true, false, [], ◌∷◌, ◌++◌, ℕ, ◌+◌, ℤ, pos, negsuc, unsigned_abs, length, length-append, w16, FitsSigned, to_z, of_z, arith}
use Rattle.std.specs.Int.Signed.{lt_z}
use mir.Facts.{to_z-of_z}
use borrow.Author.Tests.{ltb-true}
use Rattle.text.specs.Text.{bytes, digits, whole_digits, two_text}

pub two-length : (a b : ℕ) → length (two_text a b) ≡ length (digits a) + (1 + length (digits b))
unfolding two_text bytes
two-length a b = simp length-append (omega arith)

-- A level of 16 bits by its size, with a minus where it is below zero.
module _ (z : ℤ) (size : ℕ) (fit : FitsSigned w16 z) (e : size ≡ unsigned_abs (to_z w16 (of_z w16 z))) where
  pub level-below : lt_z (to_z w16 (of_z w16 z)) (pos 0) ≡ true → (45 ∷ []) ++ digits size ≡ whole_digits z
  unfolding whole_digits
  level-below h = by-sign z (rw (to_z-of_z fit) at e) (rw (to_z-of_z fit) at h)
    where
      by-sign : (y : ℤ) → size ≡ unsigned_abs y → lt_z y (pos 0) ≡ true → (45 ∷ []) ++ digits size ≡ whole_digits y
      by-sign (pos n) f k = absurd (omega (arith, ltb-true n 0 k))
      by-sign (negsuc n) f k = rw f refl

  pub level-above : lt_z (to_z w16 (of_z w16 z)) (pos 0) ≡ false → digits size ≡ whole_digits z
  unfolding whole_digits
  level-above h = by-sign z (rw (to_z-of_z fit) at e) (rw (to_z-of_z fit) at h)
    where
      by-sign : (y : ℤ) → size ≡ unsigned_abs y → lt_z y (pos 0) ≡ false → digits size ≡ whole_digits y
      by-sign (pos n) f k = rw f refl
      by-sign (negsuc n) f k = cc
