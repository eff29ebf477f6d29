-- `select::write_breakpoints` meets its contract. The loop's invariant: the buffers hold the breakpoints of the first i + 1 entries.
use Rattle.path.specs.Update.{Fraction}
use Rattle.select.specs.Inner.{Written}
use Rattle.select.proofs.write_breakpoints.Given as goal

abbrev pub invariant-loop-i : goal.invariant-loop-i
invariant-loop-i g l =
    Written (λ (b : Fraction). b.numerator) (g.M.Models.held l.models).losses (g.M.Models.held l.models).weights l.initial.numerators l.numerators l.i
    × Written (λ (b : Fraction). b.denominator) (g.M.Models.held l.models).losses (g.M.Models.held l.models).weights l.initial.denominators l.denominators l.i
