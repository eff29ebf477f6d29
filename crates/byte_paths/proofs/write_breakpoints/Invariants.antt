-- `byte_paths::write_breakpoints` meets its contract. The loop's invariant: the strings spell the breakpoints of the first i + 1 entries.
use Prim.Native.Nat.{ℕ}
use Rattle.path.specs.Update.{Fraction}
use Rattle.byte_paths.specs.Inner.{WrittenIn}
use Rattle.byte_paths.proofs.write_breakpoints.Given as goal

abbrev pub numerator : Fraction → ℕ
numerator b = b.numerator

abbrev pub denominator : Fraction → ℕ
denominator b = b.denominator

abbrev pub invariant-loop-i : goal.invariant-loop-i
invariant-loop-i l =
    WrittenIn 8 numerator l.models.losses.now l.models.weights.now l.initial.numerators l.numerators l.i
    × WrittenIn 2 denominator l.models.losses.now l.models.weights.now l.initial.denominators l.denominators l.i
