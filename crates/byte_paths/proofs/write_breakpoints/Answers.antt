-- `byte_paths::write_breakpoints` meets its contract. The loop's invariant: the strings spell the breakpoints of the first i + 1 entries.
use mathlib.Core.Path.{ap, subst, sym}
use mathlib.Core.List.{List}
use Prim.Native.Nat.{ℕ, ◌+◌}
use native.Mathlib.Omega.{arith}
use Rattle.coding.proofs.Strings.{bytes-held}
use Rattle.byte_paths.specs.Inner.{WrittenIn}
use Rattle.byte_paths.proofs.Spelt.{spelt-inside, spelt-none, spelt-more}
use Rattle.byte_paths.proofs.write_breakpoints.Invariants.{numerator, denominator}
use Rattle.byte_paths.proofs.write_breakpoints.Goals as goal

pub loop-i-init : goal.loop-i-init
loop-i-init c =
    let a = c.args in
    let m = a.models.now in (
      spelt-none 8 numerator m.losses.now m.weights.now a.numerators.now c.requires.numerators_whole (bytes-held a.numerators.now c.slice_known-1.given),
      spelt-none 2 denominator m.losses.now m.weights.now a.denominators.now c.requires.denominators_whole (bytes-held a.denominators.now c.slice_known-2-1.given),
    )

pub overflow_mul-i : goal.overflow_mul-i
overflow_mul-i c =
    let a = c.args in
    let m = a.models.now in
    omega (arith, spelt-inside 8 numerator m.losses.now m.weights.now a.numerators.now c.requires.numerators_whole (bytes-held a.numerators.now c.slice_known-1.given) c.loop-i.i (omega (arith, c.requires.listable.numerators_fit)))

pub put-requires : goal.put-requires
put-requires c =
    let a = c.args in
    let m = a.models.now in
    omega (arith, c.loop-i.invariant.0.long, spelt-inside 8 numerator m.losses.now m.weights.now a.numerators.now c.requires.numerators_whole (bytes-held a.numerators.now c.slice_known-1.given) c.loop-i.i (omega (arith, c.requires.listable.numerators_fit)))

pub overflow_mul-i-in-loop-i : goal.overflow_mul-i-in-loop-i
overflow_mul-i-in-loop-i c =
    let a = c.args in
    let m = a.models.now in
    omega (arith, spelt-inside 2 denominator m.losses.now m.weights.now a.denominators.now c.requires.denominators_whole (bytes-held a.denominators.now c.slice_known-2-1.given) c.loop-i.i (omega (arith, c.requires.listable.denominators_fit)))

pub put-requires-in-loop-i : goal.put-requires-in-loop-i
put-requires-in-loop-i c =
    let a = c.args in
    let m = a.models.now in
    omega (arith, c.loop-i.invariant.1.long, spelt-inside 2 denominator m.losses.now m.weights.now a.denominators.now c.requires.denominators_whole (bytes-held a.denominators.now c.slice_known-2-1.given) c.loop-i.i (omega (arith, c.requires.listable.denominators_fit)))

pub loop-i-preserved : goal.loop-i-preserved
loop-i-preserved c =
    let a = c.args in
    let m = a.models.now in
    let v = c.loop-i in
    let found = c.breakpoint_at-found.ensures in (
      subst (λ (b : List ℕ). WrittenIn 8 numerator m.losses.now m.weights.now a.numerators.now b (v.i + 1)) (sym c.put.ensures)
          (spelt-more 8 numerator m.losses.now m.weights.now a.numerators.now c.requires.numerators_whole
          (bytes-held a.numerators.now c.slice_known-1.given) v.numerators v.i v.invariant.0 (omega (arith, c.requires.listable.numerators_fit)) _ (λ z. ap numerator found)),
      subst (λ (b : List ℕ). WrittenIn 2 denominator m.losses.now m.weights.now a.denominators.now b (v.i + 1)) (sym c.put-in-loop-i.ensures)
          (spelt-more 2 denominator m.losses.now m.weights.now a.denominators.now c.requires.denominators_whole
          (bytes-held a.denominators.now c.slice_known-2-1.given) v.denominators v.i v.invariant.1 (omega (arith, c.requires.listable.denominators_fit)) _ (λ z. ap denominator found)),
    )
