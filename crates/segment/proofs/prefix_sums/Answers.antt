-- `segment::prefix_sums` meets its contract: before the loop cell 0 has the sum of nothing, and a turn adds one sample and fills one cell.
use Rattle.std.proofs.Common.{◌+◌, ◌∙◌, ap, below_more, arith, w16, length-set}
use mir.Facts.{to_z-of_z}
use Rattle.segment.specs.Inner.{max_raised, raised}
use Rattle.segment.proofs.Bounds.{fits-sample}
use Rattle.segment.proofs.Sums.{Along, along-start, along-next, along-front, cells-start, cells-more}
use Rattle.segment.proofs.prefix_sums.Goals as goal

pub loop-i-init : goal.loop-i-init
loop-i-init c = record {
  along = along-start raised (omega arith);
  fit = λ j h. absurd (omega arith);
  sums_are = cells-start raised _ _ (omega arith);
}

pub loop-i-preserved : goal.loop-i-preserved
loop-i-preserved c =
    let f = c.loop-i.invariant in
    let sample = c.raise-arg-1.given in
    let along : Along raised max_raised c.args.samples.now 0 (c.loop-i.i + 1) (c.loop-i.sum + c.raise-sum.result) = along-next raised _ (omega arith) (c.raise-sum.ensures.0 ∙ ap raised (to_z-of_z {w = w16} (record { sfits = sample }))) c.raise-sum.ensures.1 f.along in
    record {
      along = along;
      fit = below_more _ _ f.fit (fits-sample _ sample);
      sums_are = cells-more raised _ _ _ _ f.sums_are (omega (arith, length-set c.args.sums.now 0 0)) (along-front raised along);
    }
