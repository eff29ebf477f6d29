-- The decimal digits of a number: a number below 10 has one, and any other has a last digit after those of a tenth of it. So a
-- number below a power of 10 has few.
use mathlib.Core.Path.{◌≡◌, refl}
use mathlib.Core.Bool.{Bool, true, false, cond}
use mathlib.Core.List.{[], ◌∷◌, ◌++◌}
use Prim.Native.Nat.{ℕ, zero, suc, ◌+◌, ◌/◌, ◌%◌, ◌^◌, ◌≤◌, ◌<◌}
use native.Mathlib.Nat.{pow-suc}
use native.Mathlib.Omega.{arith}
use lib.Dec.{ltb}
use lib.IntN.{ℤ, pos, negsuc}
use lib.ListN.{length, length-append}
use lib.Signed.{mag}
use borrow.Author.Tests.{lt-ltb, le-ltb, ltb-true, ltb-false}
use Rattle.text.specs.Text.{digits_within, digits, whole_digits}

-- A larger bound on the number of digits changes nothing.
digits-any : (f g n : ℕ) → n < f → n < g → digits_within f n ≡ digits_within g n
unfolding digits_within
digits-any zero g n h k = absurd (omega arith)
digits-any (suc f) zero n h k = absurd (omega arith)
digits-any (suc f) (suc g) n h k =
    by-test (ltb n 10) (λ e. digits-any f g (n / 10) (omega (arith, ltb-false n 10 e)) (omega (arith, ltb-false n 10 e))) refl
  where
    by-test : (t : Bool) → (t ≡ false → digits_within f (n / 10) ≡ digits_within g (n / 10)) → ltb n 10 ≡ t
        → cond t ((48 + n) ∷ []) (digits_within f (n / 10) ++ ((48 + n % 10) ∷ []))
        ≡ cond t ((48 + n) ∷ []) (digits_within g (n / 10) ++ ((48 + n % 10) ∷ []))
    by-test true q e = refl
    by-test false q e = rw (q refl)

-- A number below 10 has one digit.
pub digits-one : (n : ℕ) → n < 10 → digits n ≡ (48 + n % 10) ∷ []
unfolding digits digits_within
digits-one n h = let e : n % 10 ≡ n = omega arith in simp (lt-ltb n 10 h, e)

-- Any other has a last digit after those of a tenth of it.
pub digits_more : (n : ℕ) → 10 ≤ n → digits n ≡ digits (n / 10) ++ ((48 + n % 10) ∷ [])
unfolding digits digits_within
digits_more n h = simp (le-ltb n 10 h) (rw (digits-any n (suc (n / 10)) (n / 10) (omega arith) (omega arith)))

pub digits-length : (n : ℕ) → 10 ≤ n → length (digits n) ≡ length (digits (n / 10)) + 1
digits-length n h = rw (digits_more n h) (length-append (digits (n / 10)) ((48 + n % 10) ∷ []))

-- A number below 10 ^ (k + 1) has at most k + 1 digits.
pub digits-few : (k n : ℕ) → n < 10 ^ suc k → length (digits n) ≤ suc k
digits-few zero n h = rw (digits-one n h) (omega arith)
digits-few (suc k) n h = by-test (ltb n 10) refl (digits-few k (n / 10) (omega (arith, pow-suc 10 (suc k))))
  where
    by-test : (t : Bool) → ltb n 10 ≡ t → length (digits (n / 10)) ≤ suc k → length (digits n) ≤ suc (suc k)
    by-test true e q = rw (digits-one n (ltb-true n 10 e)) (omega arith)
    by-test false e q = omega (arith, digits-length n (ltb-false n 10 e))

-- A whole number of 16 bits has at most 6 bytes.
pub whole-few : (z : ℤ) → mag z < 32768 → length (whole_digits z) ≤ 6
unfolding whole_digits
whole-few (pos n) h = omega (arith, digits-few 4 n (omega arith))
whole-few (negsuc n) h = omega (arith, digits-few 4 (suc n) (omega arith))
