-- `segment::raise` meets its contract: a sample of 16 bits, raised by 32,768, is at least 0 and below 65,536.
use Rattle.std.proofs.Common.{refl, arith, ℤ, pos, w16, w32, FitsSigned, ◌+ℤ◌}
use mir.Facts.{to_z-of_z, sfits_widen}
use Rattle.segment.specs.Inner.{offset, raised}
use Rattle.segment.proofs.Bounds.{fits-sample, raised-low}
use Rattle.segment.proofs.Signed.{sfits-sum}
use Rattle.segment.proofs.Integers.{mag-PN}
use Rattle.segment.proofs.raise.Goals as goal

-- A sample fits 32 bits, and so does the sum.
wide_fits : (x : ℤ) → FitsSigned w16 x → FitsSigned w32 x
wide_fits x r = sfits_widen tt r

sum_fits : (x : ℤ) → FitsSigned w16 x → FitsSigned w32 (x +ℤ pos offset)
sum_fits x r = let m = mag-PN x r.sfits in sfits-sum x (pos offset) (omega arith) (omega arith)

pub returns : goal.returns
unfolding raised
returns c =
    let x = c.args.sample in
    let fits = c.ranges.sample in
    rw (c.from.ensures, to_z-of_z fits, to_z-of_z (wide_fits x fits), to_z-of_z (sum_fits x fits)) (refl, omega (arith, raised-low x (fits-sample x fits.sfits)))
