-- `segment::segment_level` meets its contract: the sum handed to `level` is that of the segment's samples. All numbers on the way
-- are small, so the machine's 32 bits stand for them, and the level of samples of 16 bits is of 16 bits.
use Rattle.std.proofs.Common.{◌≡◌, refl, ◌∙◌, List, ℕ, ◌*◌, ◌-◌, arith, ℤ, pos, neg_ℤ, ◌-ℤ◌, length, w16, w32, FitsSigned, to_z, of_z}
use Rattle.std.proofs.Math.Seq.{slice, length-slice}
use mir.Facts.{to_z-of_z, to_z_pos}
use Rattle.segment.specs.Segment.{max_samples, total, level_of}
use Rattle.segment.specs.Inner.{offset, SegmentIn, SumOf}
use Rattle.segment.proofs.Integers.{PN-le, P-neg, N-neg}
use Rattle.segment.proofs.Signed.{sfits-PN, sfits-sum}
use Rattle.segment.proofs.Bounds.{sample-fits}
use Rattle.segment.proofs.Segments.{Stretch, stretch, sum_low, total-is, total-low, level-fits}
use Rattle.segment.proofs.segment_level.Goals as goal

module _ {samples : List ℤ} {from to sum : ℕ} (r : SegmentIn samples from to) (s : SumOf (slice from to samples) sum) where
  abbrev n : ℕ
  n = to - from

  abbrev segment : List ℤ
  segment = slice from to samples

  part : Stretch segment
  part = stretch r s.fit

  len : length segment ≡ n
  len = length-slice from to samples r.within

  -- What the bits of the length and of the sum stand for; the product and the difference fit.
  n-bits : to_z w32 n ≡ pos n
  n-bits = to_z_pos w32 (omega (arith, len, part.short))

  sum-bits : to_z w32 sum ≡ pos sum
  sum-bits = to_z_pos w32 (omega (arith, s.is, sum_low part))

  product-fits : FitsSigned w32 (pos (offset * n))
  product-fits = sfits-PN (pos (offset * n)) (omega (arith, len, part.short)) (omega arith)

  total-fits : FitsSigned w32 (pos sum -ℤ pos (offset * n))
  total-fits =
      let t = pos (offset * n) in
      sfits-sum (pos sum) (neg_ℤ t) (omega (arith, s.is, sum_low part, P-neg t)) (omega (arith, len, part.short, N-neg t))

  -- The difference is the sum of the samples.
  difference-is : pos sum -ℤ pos (offset * n) ≡ total segment
  difference-is = rw (s.is, ← len) (total-is part)

  -- The level that the call gives is the segment's.
  abbrev own : ℤ
  own = level_of segment

  own-fits : FitsSigned w16 own
  own-fits = record { sfits = sample-fits own (level-fits part) }

pub overflow_cast-sum : goal.overflow_cast-sum
overflow_cast-sum c = record { sfits = omega (arith, c.raised_sum-sum.ensures.is, sum_low (part c.requires c.raised_sum-sum.ensures)) }

pub overflow_sub-sum : goal.overflow_sub-sum
overflow_sub-sum c =
    let s = c.raised_sum-sum.ensures in
    rw (sum-bits c.requires s, n-bits c.requires s, to_z-of_z (product-fits c.requires s)) (total-fits c.requires s)

pub level-requires : goal.level-requires
level-requires c =
    let s = c.raised_sum-sum.ensures in
    let n = c.args.to - c.args.from in
    rw (sum-bits c.requires s, n-bits c.requires s, to_z-of_z (product-fits c.requires s), to_z-of_z (total-fits c.requires s), difference-is c.requires s)
    (total-low (part c.requires s), (PN-le (pos 1) (pos n) (omega arith), PN-le (pos n) (pos max_samples) (omega arith)))

pub overflow_cast-result : goal.overflow_cast-result
overflow_cast-result c =
    let r = c.requires in
    let s = c.raised_sum-sum.ensures in
    let level-is : c.level.result ≡ own r s = c.level.ensures ∙ rw (sum-bits r s, n-bits r s, to_z-of_z (product-fits r s), to_z-of_z (total-fits r s), difference-is r s, len r s) refl in
    let bits : to_z w32 (of_z w32 c.level.result) ≡ c.level.result = to_z-of_z {w = w32} {z = c.level.result} (record { sfits = c.level.type_inv }) in
    rw (bits ∙ level-is) (own-fits r s)

pub returns : goal.returns
returns c =
    let r = c.requires in
    let s = c.raised_sum-sum.ensures in
    let level-is : c.level.result ≡ own r s = c.level.ensures ∙ rw (sum-bits r s, n-bits r s, to_z-of_z (product-fits r s), to_z-of_z (total-fits r s), difference-is r s, len r s) refl in
    let bits : to_z w32 (of_z w32 c.level.result) ≡ c.level.result = to_z-of_z {w = w32} {z = c.level.result} (record { sfits = c.level.type_inv }) in
    rw (bits ∙ level-is) (to_z-of_z (own-fits r s))
