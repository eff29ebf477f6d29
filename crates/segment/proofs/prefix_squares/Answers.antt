-- `segment::prefix_squares` meets its contract: before the loop cell 0 has the sum of nothing, and a turn adds one square and fills one
-- cell.
use Rattle.std.proofs.Common.{◌+◌, ◌∙◌, ap, arith, w16, length-set}
use mir.Facts.{to_z-of_z}
use Rattle.segment.specs.Inner.{max_square, raised_square}
use Rattle.segment.proofs.Sums.{Along, along-start, along-next, along-front, cells-start, cells-more}
use Rattle.segment.proofs.prefix_squares.Goals as goal

pub loop-i-init : goal.loop-i-init
loop-i-init c = record { along = along-start raised_square (omega arith); sums_are = cells-start raised_square _ _ (omega arith) }

pub loop-i-preserved : goal.loop-i-preserved
loop-i-preserved c =
    let f = c.loop-i.invariant in
    let along : Along raised_square max_square c.args.samples.now 0 (c.loop-i.i + 1) (c.loop-i.sum + c.raised_square-sum.result) =
    along-next raised_square _ (omega arith) (c.raised_square-sum.ensures.0 ∙ ap raised_square (to_z-of_z {w = w16} (record { sfits = c.raised_square-arg-1.given }))) c.raised_square-sum.ensures.1 f.along in
    record { along = along; sums_are = cells-more raised_square _ _ _ _ f.sums_are (omega (arith, length-set c.args.squares.now 0 0)) (along-front raised_square along) }
