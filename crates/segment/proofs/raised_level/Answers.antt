-- `segment::raised_level` meets its contract: the product with the reciprocal fits, and gives the level.
use native.Mathlib.Omega.{arith}
use Rattle.segment.proofs.Quotients.{level-exact}
use Rattle.segment.proofs.raised_level.Goals as goal

pub returns : goal.returns
returns c =
    let s = c in
    let q = s.requires in
    let r = q.recips_are in
    level-exact s.args.sum s.args.n _ _ q.sum_low q.some r.asked.short (r.are s.args.n q.some (omega arith)) (omega arith)
