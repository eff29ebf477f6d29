-- `segment::segment_gain` meets its contract: the difference of two prefix sums is the sum of the raised samples, the level of these is
-- had from it, and the gain from both.
use Rattle.std.proofs.Common.{◌≡◌, refl, ◌∙◌, ℕ, ◌-◌, List, ℤ, pos, arith, get_or}
use Rattle.segment.specs.Segment.{level}
use Rattle.segment.proofs.Bounds.{raised_sum-low}
use Rattle.segment.proofs.Segments.{Between, between, sum_low, Gained, gained, product-fits}
use Rattle.segment.proofs.segment_gain.Goals as goal

-- What the level gives.
gain : {samples : List ℤ} {sums : List ℕ} {from to v : ℕ} (p : Between samples sums from to) → pos v ≡ level (pos (get_or sums to 0 - get_or sums from 0)) (to - from) → Gained p.segment v
gain {v = v} p e = gained p.segment v (e ∙ rw (p.sum, p.len) refl)

pub overflow_sub-sum : goal.overflow_sub-sum
overflow_sub-sum c = (between c.requires).below

pub raised_level-v-requires : goal.raised_level-v-requires
raised_level-v-requires c =
    let p = between c.requires in
    let r = c.requires.ready.recips_are in
    record {
      some = omega arith;
      recips_are = record { asked = record { short = omega (arith, p.len, p.segment.short); room = omega (arith, r.asked.room, c.requires.within) }; are = λ i l u. r.are i l (omega (arith, c.requires.within)) };
      sum_low = rw (p.sum, p.len) (raised_sum-low _ p.segment.small);
    }

pub overflow_mul-result-2 : goal.overflow_mul-result-2
overflow_mul-result-2 c = let p = between c.requires in record { fits = rw p.len (omega (arith, (gain p c.raised_level-v.ensures).taken, sum_low p.segment)) }

pub overflow_sub-result : goal.overflow_sub-result
overflow_sub-result c = let p = between c.requires in rw (p.sum, p.len) (omega (arith, (gain p c.raised_level-v.ensures).taken))

pub overflow_mul-result-3 : goal.overflow_mul-result-3
overflow_mul-result-3 c =
    let p = between c.requires in
    rw (p.sum, p.len) (record { fits = product-fits (gain p c.raised_level-v.ensures).level-low (omega (arith, sum_low p.segment)) })

pub returns : goal.returns
returns c = let p = between c.requires in rw (p.sum, p.len) (gain p c.raised_level-v.ensures).gain_is
