-- `segment::level` meets its contract: the quotient Q of 2 sum + len - 1 by 2 len, with the sign of the remainder R added, is near to
-- sum / len, and only one number is. All that is left is to read the machine's numbers off their 32 bits.
use Rattle.std.proofs.Common.{◌≡◌, sym, ◌∙◌, ap, ℕ, ◌+◌, ◌*◌, ◌-◌, ◌≤◌, ◌<◌, arith, ℤ, pos, nat_abs, ◌+ℤ◌, ◌-ℤ◌, ◌*ℤ◌, ◌≤ℤ◌, w32, FitsSigned, to_z, of_z}
use lib.Signed.{quot_z, rem_z, shr_z, yes_non_neg, pos-nat_abs}
use mir.Facts.{to_z-of_z, to_z_pos}
use Rattle.segment.specs.Segment.{max_samples, level}
use Rattle.segment.specs.Inner.{offset}
use Rattle.segment.proofs.Integers.{P, N, ext, PN-add, PN-minus, PN-mul, le-PN, PN-le, nat_abs-PN, tight}
use Rattle.segment.proofs.Nearest.{near-unique, level-near}
use Rattle.segment.proofs.Signed.{sfits-PN, sfits-sum, Divided, divided, sign, sign_small, shift-sign, near-quotient}
use Rattle.segment.proofs.level.Goals as goal

-- What the 32 bits of a number stand for.
abbrev bits : ℤ → ℤ
bits z = to_z w32 (of_z w32 z)

-- What is known of the sum and of the length.
record Known (S L : ℤ) : Type 0 where
  pub sum_fits : FitsSigned w32 S
  pub len_fits : FitsSigned w32 L
  pub small : nat_abs S ≤ offset * max_samples
  pub low : pos 1 ≤ℤ L
  pub high : L ≤ℤ pos max_samples

module _ (S L : ℤ) (c : Known S L) where
  abbrev k : ℕ
  k = nat_abs L

  -- Twice the sum, and with the length added.
  abbrev T : ℤ
  T = pos 2 *ℤ S

  abbrev U : ℤ
  U = T +ℤ pos k

  -- As the machine has them: the length, the samples but one, the divisor, and U.
  abbrev len : ℤ
  len = bits L

  abbrev others : ℕ
  others = nat_abs (bits (len -ℤ pos 1))

  abbrev d : ℤ
  d = bits (pos 2 *ℤ bits (to_z w32 others +ℤ pos 1))

  abbrev u : ℤ
  u = bits (bits (pos 2 *ℤ bits S) +ℤ len)

  -- The length is a natural number, and small.
  len_is : L ≡ pos k
  len_is = sym (pos-nat_abs L (yes_non_neg (PN-le (pos 0) L (omega (arith, le-PN (pos 1) L c.low)))))

  k-low : 1 ≤ k
  k-low = omega (arith, le-PN (pos 1) (pos k) (rw len_is at c.low))

  k-high : k ≤ max_samples
  k-high = omega (arith, le-PN (pos k) (pos max_samples) (rw len_is at c.high))

  len-bits : len ≡ pos k
  len-bits = to_z-of_z c.len_fits ∙ len_is

  -- The samples but one are one less, and the divisor is twice the length.
  less-is : pos k -ℤ pos 1 ≡ pos (k - 1)
  less-is = ext (pos k -ℤ pos 1) (pos (k - 1)) (omega (arith, PN-minus (pos k) (pos 1), k-low))

  less-fits : FitsSigned w32 (pos (k - 1))
  less-fits = sfits-PN (pos (k - 1)) (omega (arith, k-high)) (omega arith)

  less-bits : bits (len -ℤ pos 1) ≡ pos (k - 1)
  less-bits = rw (len-bits, less-is) (to_z-of_z less-fits)

  others-bits : to_z w32 others ≡ pos (k - 1)
  others-bits = rw less-bits (to_z_pos w32 (omega (arith, k-high)))

  more-is : k - 1 + 1 ≡ k
  more-is = omega (arith, k-low)

  more-fits : FitsSigned w32 (pos (k - 1 + 1))
  more-fits = sfits-PN (pos (k - 1 + 1)) (omega (arith, k-high)) (omega arith)

  more-bits : bits (to_z w32 others +ℤ pos 1) ≡ pos k
  more-bits = rw others-bits (to_z-of_z more-fits ∙ ap pos more-is)

  d-fits : FitsSigned w32 (pos (2 * k))
  d-fits = sfits-PN (pos (2 * k)) (omega (arith, k-high)) (omega arith)

  d-bits : d ≡ pos (2 * k)
  d-bits = rw more-bits (to_z-of_z d-fits)

  -- U by its parts; it is small too.
  twice-fits : FitsSigned w32 T
  twice-fits =
      let t = tight T {p = 2 * P S} {n = 2 * N S} (omega (arith, PN-mul (pos 2) S)) in
      sfits-PN T (omega (arith, c.small, nat_abs-PN S)) (omega (arith, c.small, nat_abs-PN S))

  twice-bits : bits (pos 2 *ℤ bits S) ≡ T
  twice-bits = rw (to_z-of_z c.sum_fits) (to_z-of_z twice-fits)

  u-is : P U + 2 * N S ≡ 2 * P S + k + N U
  u-is = omega (arith, PN-mul (pos 2) S, PN-add T (pos k))

  u-small : (P U ≤ 2 * P S + k) × (N U ≤ 2 * N S)
  u-small = tight U (omega (arith, u-is))

  u-fits : FitsSigned w32 U
  u-fits =
      let t = u-small in
      sfits-PN U (omega (arith, c.small, k-high, nat_abs-PN S)) (omega (arith, c.small, nat_abs-PN S))

  u-bits : u ≡ U
  u-bits = rw (twice-bits, len-bits) (to_z-of_z u-fits)

-- What the code adds to U is left open: all numbers fit for any small z. That it is -1 counts in the last step alone.
module _ (S L : ℤ) (c : Known S L) (z : ℤ) (small : nat_abs z ≤ max_samples) where
  abbrev X : ℤ
  X = U S L c +ℤ z

  abbrev Q : ℤ
  Q = quot_z X (pos (2 * k S L c))

  abbrev R : ℤ
  R = rem_z X (pos (2 * k S L c))

  abbrev q : ℤ
  q = bits (quot_z (bits (u S L c +ℤ z)) (d S L c))

  abbrev s : ℤ
  s = bits (shr_z (bits (rem_z (bits (u S L c +ℤ z)) (d S L c))) 2147483648)

  x-small : (P X ≤ P (U S L c) + P z) × (N X ≤ N (U S L c) + N z)
  x-small = tight X (omega (arith, PN-add (U S L c) z))

  parts : Divided X (2 * k S L c) Q R
  parts = divided X (2 * k S L c) (omega (arith, k-low S L c))

  x_fits : FitsSigned w32 X
  x_fits =
      let t = x-small in
      let v = u-small S L c in
      sfits-PN X (omega (arith, c.small, k-high S L c, nat_abs-PN S, nat_abs-PN z)) (omega (arith, c.small, nat_abs-PN (S), nat_abs-PN z))

  x-bits : bits (u S L c +ℤ z) ≡ X
  x-bits = rw (u-bits S L c) (to_z-of_z x_fits)

  quot_fits : FitsSigned w32 Q
  quot_fits =
      let t = x-small in
      let v = u-small S L c in
      let e = parts in
      sfits-PN Q (omega (arith, c.small, k-high S L c, nat_abs-PN S, nat_abs-PN z)) (omega (arith, c.small, nat_abs-PN (S), nat_abs-PN z))

  quot-bits : q ≡ Q
  quot-bits = rw (x-bits, d-bits S L c) (to_z-of_z quot_fits)

  rem-fits : FitsSigned w32 R
  rem-fits = let e = parts in sfits-PN R (omega (arith, k-high S L c)) (omega (arith, k-high S L c))

  -- What the shift leaves of the remainder.
  sign-bits : s ≡ sign R
  sign-bits =
      let n = sign_small R in
      rw (x-bits, d-bits S L c, to_z-of_z rem-fits, shift-sign R rem-fits.sfits)
      (to_z-of_z {w = w32} (sfits-PN (sign R) (omega arith) (omega arith)))

  can-divide : (0 < of_z w32 (pos 2 *ℤ bits (to_z w32 (others S L c) +ℤ pos 1))) × FitsSigned w32 (quot_z (bits (u S L c +ℤ z)) (d S L c))
  can-divide = (rw (more-bits S L c) (omega (arith, k-low S L c)), rw (x-bits, d-bits S L c) quot_fits)

  level-fits : FitsSigned w32 (Q +ℤ sign R)
  level-fits =
      let t = x-small in
      let v = u-small S L c in
      let e = parts in
      let n = sign_small R in
      sfits-sum Q (sign R) (omega (arith, c.small, k-high S L c, nat_abs-PN S, nat_abs-PN z)) (omega (arith, c.small, nat_abs-PN (S), nat_abs-PN z))

  sum_fits : FitsSigned w32 (q +ℤ s)
  sum_fits = rw (quot-bits, sign-bits) level-fits

  -- With a number t that is no other than this sign the quotient makes the level, where z is -1.
  level-is : (t : ℤ) → P t ≡ P s → N t ≡ N s → P z ≡ 0 → N z ≡ 1 → bits (q +ℤ t) ≡ level (S) (k S L c)
  level-is t e f p n =
      rw (quot-bits, ext t s (omega arith), sign-bits, to_z-of_z level-fits)
      (near-unique (S) (k S L c) (Q +ℤ sign R) (level (S) (k S L c)) (near-quotient (omega (arith, u-is S L c, PN-add (U S L c) z)) parts) (level-near (S) (k S L c) (k-low S L c)))

known : (c : goal.Start) → Known c.args.sum c.args.len
known c = record { sum_fits = c.ranges.sum; len_fits = c.ranges.len; small = c.requires.0; low = c.requires.1.0; high = c.requires.1.1 }

pub nonzero_rem-r : goal.nonzero_rem-r
nonzero_rem-r c = can-divide c.args.sum c.args.len (known c) _ (omega arith)

pub nonzero_div-result : goal.nonzero_div-result
nonzero_div-result c = can-divide c.args.sum c.args.len (known c) _ (omega arith)

pub returns : goal.returns
returns c = level-is c.args.sum c.args.len (known c) _ (omega arith) _ (omega arith) (omega arith) (omega arith) (omega arith)

pub overflow_add-result : goal.overflow_add-result
overflow_add-result c = sum_fits c.args.sum c.args.len (known c) _ (omega arith)
