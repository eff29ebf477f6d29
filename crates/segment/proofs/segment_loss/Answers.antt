-- `segment::segment_loss` meets its contract: the quotient is the level of the raised samples, and the loss is what the sum of their
-- squares has beyond the gain at that level.
use Rattle.std.proofs.Common.{◌≡◌, refl, sym, List, ℕ, ◌+◌, ◌*◌, ◌-◌, ◌/◌, ◌≤◌, arith, ℤ, pos, length}
use Rattle.std.proofs.Math.Seq.{slice, length-slice}
use Rattle.segment.specs.Segment.{max_samples, level, segment_loss}
use Rattle.segment.specs.Inner.{max_raised, raised_sum, raised_squares, SumsIn}
use Rattle.segment.proofs.Segments.{Stretch, stretch, sum_low, gained, product-fits}
use Rattle.segment.proofs.segment_loss.Goals as goal

-- What the level of raised samples with this sum gives, as the code has it.
record Divided (sum n squares loss : ℕ) : Type 0 where
  pub sum-small : sum ≤ max_raised * max_samples
  pub level-small : (2 * sum + n - 1) / (2 * n) ≤ max_raised
  pub taken : n * ((2 * sum + n - 1) / (2 * n)) ≤ 2 * sum
  pub gain_is : (2 * sum + n - 1) / (2 * n) * (2 * sum - n * ((2 * sum + n - 1) / (2 * n))) + loss ≡ squares

quotient_is : (s n : ℕ) → pos ((2 * s + n - 1) / (2 * n)) ≡ level (pos s) n
unfolding level
quotient_is s n = refl

divided : {xs : List ℤ} {sum n squares : ℕ} → Stretch xs → sum ≡ raised_sum xs → n ≡ length xs → squares ≡ raised_squares xs → Divided sum n squares (segment_loss xs)
divided {xs} s e f g =
    let h = gained s _ (quotient_is (raised_sum xs) (length xs)) in
    record { sum-small = rw e (sum_low s); level-small = rw (e, f) h.level-low; taken = rw (e, f) h.taken; gain_is = rw (e, f, g) h.gain_is }

part : {samples : List ℤ} {from to sum squares : ℕ} → SumsIn samples from to sum squares → Divided sum (to - from) squares (segment_loss (slice from to samples))
part {samples} {from} {to} r =
    divided (stretch r.segment r.fit) r.sum_is (sym (length-slice from to samples r.segment.within)) r.squares_are

pub overflow_mul-v : goal.overflow_mul-v
overflow_mul-v c = record { fits = omega (arith, (part c.requires).sum-small) }

pub overflow_add-v : goal.overflow_add-v
overflow_add-v c = record { fits = omega (arith, (part c.requires).sum-small, c.requires.segment.short, c.requires.segment.within) }

pub overflow_mul-result-3 : goal.overflow_mul-result-3
overflow_mul-result-3 c = record { fits = product-fits (part c.requires).level-small (omega (arith, (part c.requires).sum-small)) }

pub overflow_sub-result-2 : goal.overflow_sub-result-2
overflow_sub-result-2 c = omega (arith, (part c.requires).gain_is)

pub returns : goal.returns
returns c = omega (arith, (part c.requires).gain_is)
