-- `build::Linear::fill` meets its contract. The loop's invariant: the lists hold the path of the first i models, and from place i on they
-- are as they were, so that the models to come still stand there.
use mathlib.Core.Path.{ap, sym, subst, ◌∙◌}
use Prim.Native.Nat.{ℕ, ◌≤◌}
use native.Mathlib.Omega.{arith}
use Rattle.path.specs.Model.{lists}
use Rattle.path.specs.declared.tally.Tally.{Tally}
use Rattle.build.specs.Inner.{BuiltIn}
use Rattle.build.proofs.Steps.{built-none, turn-may-try, turn-within, turn-passed, turn-pushed}
use Rattle.build.proofs.LinearMethod.fill.Goals as goal
use Rattle.build.proofs.LinearMethod.fill.Goals.{then-not-passed_over, else-not-passed_over}

pub loop-i-init : goal.loop-i-init
loop-i-init c =
    let a = c.args in
    let t₀ = lists a.sizes.now a.losses.now a.weights.now in
    subst (λ (k : ℕ). BuiltIn t₀ t₀ t₀ 0 k 0) (sym (ap (λ (x : Tally). x.count) c.none.ensures)) (built-none t₀ t₀)

pub try_model-made-requires : goal.try_model-made-requires
try_model-made-requires c = turn-may-try c.loop-i.invariant c.entry_at-new.ensures c.requires c.loop-i-test.true

pub offset_bounds-sizes-made : goal.offset_bounds-sizes-made
offset_bounds-sizes-made c =
    let l = c.loop-i in
    let within : c.try_model-made.result.entries ≤ l.i = turn-within l.invariant c.entry_at-new.ensures c.requires c.loop-i-test.true (c.try_model-made.ensures l.sizes c.entry_at-new.result.size) in
    omega (arith, within, c.requires.ok.fits.in_sizes)

pub bounds-sizes-made : goal.bounds-sizes-made
bounds-sizes-made c =
    let l = c.loop-i in
    let within : c.try_model-made.result.entries ≤ l.i = turn-within l.invariant c.entry_at-new.ensures c.requires c.loop-i-test.true (c.try_model-made.ensures l.sizes c.entry_at-new.result.size) in
    omega (arith, within, c.requires.ok.fits.in_sizes)

pub offset_bounds-losses-made : goal.offset_bounds-losses-made
offset_bounds-losses-made c =
    let l = c.loop-i in
    let within : c.try_model-made.result.entries ≤ l.i = turn-within l.invariant c.entry_at-new.ensures c.requires c.loop-i-test.true (c.try_model-made.ensures l.sizes c.entry_at-new.result.size) in
    omega (arith, within, c.requires.ok.fits.in_losses)

pub bounds-losses-made : goal.bounds-losses-made
bounds-losses-made c =
    let l = c.loop-i in
    let within : c.try_model-made.result.entries ≤ l.i = turn-within l.invariant c.entry_at-new.ensures c.requires c.loop-i-test.true (c.try_model-made.ensures l.sizes c.entry_at-new.result.size) in
    omega (arith, within, c.requires.ok.fits.in_losses)

pub offset_bounds-weights-made : goal.offset_bounds-weights-made
offset_bounds-weights-made c =
    let l = c.loop-i in
    let within : c.try_model-made.result.entries ≤ l.i = turn-within l.invariant c.entry_at-new.ensures c.requires c.loop-i-test.true (c.try_model-made.ensures l.sizes c.entry_at-new.result.size) in
    omega (arith, within, c.requires.ok.fits.in_weights)

pub bounds-weights-made : goal.bounds-weights-made
bounds-weights-made c =
    let l = c.loop-i in
    let within : c.try_model-made.result.entries ≤ l.i = turn-within l.invariant c.entry_at-new.ensures c.requires c.loop-i-test.true (c.try_model-made.ensures l.sizes c.entry_at-new.result.size) in
    omega (arith, within, c.requires.ok.fits.in_weights)

pub overflow_add-made : goal.overflow_add-made
overflow_add-made c =
    let l = c.loop-i in
    let within : c.try_model-made.result.entries ≤ l.i = turn-within l.invariant c.entry_at-new.ensures c.requires c.loop-i-test.true (c.try_model-made.ensures l.sizes c.entry_at-new.result.size) in
    omega (arith, within, c.requires.ok.few)

pub loop-i-preserved : goal.loop-i-preserved
loop-i-preserved c =
    let l = c.loop-i in
    let new = c.entry_at-new.result in
    let over = c.passed_over.ensures l.sizes l.weights new.size new.weight in
    elim c.if-not-passed_over.branch [
      | then-not-passed_over w ↦ rw (w.sizes-is, w.losses-is, w.weights-is, w.made-is)
          (turn-pushed l.invariant c.entry_at-new.ensures c.requires c.loop-i-test.true (w.try_model-made.ensures l.sizes new.size) (sym over ∙ w.if-not-passed_over.true))
      | else-not-passed_over w ↦ rw (w.sizes-is, w.losses-is, w.weights-is, w.made-is)
          (turn-passed l.invariant c.entry_at-new.ensures (sym over ∙ w.if-not-passed_over.false))
    ]
