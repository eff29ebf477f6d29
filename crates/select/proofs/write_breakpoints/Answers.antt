-- `select::write_breakpoints` meets its contract. The loop's invariant: the buffers hold the breakpoints of the first i + 1 entries.
use mathlib.Core.Path.{ap}
use native.Mathlib.Omega.{arith}
use Rattle.path.specs.Update.{Fraction}
use Rattle.select.proofs.Listings.{written_none, written-more}
use Rattle.select.proofs.write_breakpoints.Goals as goal

pub loop-i-init : goal.loop-i-init
loop-i-init g c =
    let a = c.args in
    let h = g.M.Models.held a.models.now in
    (written_none (λ (b : Fraction). b.numerator) h.losses h.weights a.numerators.now, written_none (λ (b : Fraction). b.denominator) h.losses h.weights a.denominators.now)

pub loop-i-preserved : goal.loop-i-preserved
loop-i-preserved g c =
    let a = c.args in
    let h = g.M.Models.held a.models.now in
    let lp = c.loop-i in
    let found = c.breakpoint_at-found.ensures in (
      written-more (λ (b : Fraction). b.numerator) h.losses h.weights a.numerators.now lp.numerators lp.i lp.invariant.0 (omega (arith, c.requires.numerators_fit)) _ (λ s. ap (λ (b : Fraction). b.numerator) found),
      written-more (λ (b : Fraction). b.denominator) h.losses h.weights a.denominators.now lp.denominators lp.i lp.invariant.1 (omega (arith, c.requires.denominators_fit)) _ (λ s. ap (λ (b : Fraction). b.denominator) found),
    )
