-- `quadratic::find_nearest` meets its contract. The loop's invariant: `best` is the place of the nearest of the first i models.
use mathlib.Core.Path.{◌≡◌, sym, subst, ◌∙◌}
use Prim.Native.Nat.{ℕ}
use native.Mathlib.Omega.{arith}
use Rattle.path.specs.Model.{lists, model_at}
use Rattle.quadratic.specs.Inner.{NearestAt}
use Rattle.quadratic.proofs.Searches.{nearest-first, nearest-now, nearest-still}
use Rattle.quadratic.proofs.find_nearest.Goals as goal
use Rattle.quadratic.proofs.find_nearest.Goals.{then-is_nearer, else-is_nearer}

pub offset_bounds-losses-at : goal.offset_bounds-losses-at
offset_bounds-losses-at c = omega (arith, c.requires.1.in_losses, c.requires.1.in_weights)

pub bounds-losses-at : goal.bounds-losses-at
bounds-losses-at c = omega (arith, c.requires.1.in_losses, c.requires.1.in_weights)

pub offset_bounds-weights-at : goal.offset_bounds-weights-at
offset_bounds-weights-at c = omega (arith, c.requires.1.in_losses, c.requires.1.in_weights)

pub bounds-weights-at : goal.bounds-weights-at
bounds-weights-at c = omega (arith, c.requires.1.in_losses, c.requires.1.in_weights)

pub loop-i-init : goal.loop-i-init
loop-i-init c =
    let a = c.args in
    (c.requires.0, omega arith, λ s. nearest-first (lists s a.losses.now a.weights.now) (model_at (lists s a.losses.now a.weights.now) a.at))

pub offset_bounds-losses-best : goal.offset_bounds-losses-best
offset_bounds-losses-best c = omega (arith, c.requires.1.in_losses, c.requires.1.in_weights, c.loop-i.invariant.1)

pub bounds-losses-best : goal.bounds-losses-best
bounds-losses-best c = omega (arith, c.requires.1.in_losses, c.requires.1.in_weights, c.loop-i.invariant.1)

pub offset_bounds-weights-best : goal.offset_bounds-weights-best
offset_bounds-weights-best c = omega (arith, c.requires.1.in_losses, c.requires.1.in_weights, c.loop-i.invariant.1)

pub bounds-weights-best : goal.bounds-weights-best
bounds-weights-best c = omega (arith, c.requires.1.in_losses, c.requires.1.in_weights, c.loop-i.invariant.1)

pub offset_bounds-losses-i : goal.offset_bounds-losses-i
offset_bounds-losses-i c = omega (arith, c.requires.1.in_losses, c.requires.1.in_weights)

pub bounds-losses-i : goal.bounds-losses-i
bounds-losses-i c = omega (arith, c.requires.1.in_losses, c.requires.1.in_weights)

pub offset_bounds-weights-i : goal.offset_bounds-weights-i
offset_bounds-weights-i c = omega (arith, c.requires.1.in_losses, c.requires.1.in_weights)

pub bounds-weights-i : goal.bounds-weights-i
bounds-weights-i c = omega (arith, c.requires.1.in_losses, c.requires.1.in_weights)

pub is_nearer-requires : goal.is_nearer-requires
is_nearer-requires c =
    let lp = c.loop-i in
    c.requires.1.near lp.best lp.i lp.invariant.1 c.loop-i-test.true

pub loop-i-preserved : goal.loop-i-preserved
loop-i-preserved c =
    let a = c.args in
    let lp = c.loop-i in (
      omega arith,
      elim c.if-is_nearer.branch [
        | then-is_nearer w ↦ rw w.best-is (omega arith)
        | else-is_nearer w ↦ rw w.best-is (omega (arith, lp.invariant.1))
      ],
      elim c.if-is_nearer.branch [
        | then-is_nearer w ↦ rw w.best-is
            (λ s. nearest-now (lists s a.losses.now a.weights.now) (model_at (lists s a.losses.now a.weights.now) a.at) lp.i lp.best
            (lp.invariant.2 s) (sym c.is_nearer.ensures ∙ w.if-is_nearer.true))
        | else-is_nearer w ↦ rw w.best-is
            (λ s. nearest-still (lists s a.losses.now a.weights.now) (model_at (lists s a.losses.now a.weights.now) a.at) lp.i lp.best
            (lp.invariant.2 s) (sym c.is_nearer.ensures ∙ w.if-is_nearer.false))
      ],
    )

pub returns : goal.returns
returns c s =
    let a = c.args in
    let lp = c.loop-i in
    let e : lp.i ≡ a.at = omega arith in
    subst (λ (n : ℕ). NearestAt (lists s a.losses.now a.weights.now) (model_at (lists s a.losses.now a.weights.now) a.at) n lp.best) e (lp.invariant.2 s)
