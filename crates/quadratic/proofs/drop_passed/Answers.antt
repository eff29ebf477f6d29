-- `quadratic::drop_passed` meets its contract. The loop's invariant: the lists hold those of the first i models that are not passed over,
-- and from place i on they are as they were, so that the models to come still stand there.
use mathlib.Core.Path.{sym, ◌∙◌}
use Rattle.path.specs.Model.{lists}
use Rattle.quadratic.proofs.Dropped.{dropped-none, turn-dropped, turn-kept}
use Rattle.quadratic.proofs.drop_passed.Goals as goal
use Rattle.quadratic.proofs.drop_passed.Goals.{then-not-passed_over, else-not-passed_over}

pub loop-i-init : goal.loop-i-init
loop-i-init c =
    let a = c.args in
    let t₀ = lists a.sizes.now a.losses.now a.weights.now in
    dropped-none t₀ t₀

pub loop-i-preserved : goal.loop-i-preserved
loop-i-preserved c =
    let l = c.loop-i in
    let new = c.entry_at-new.result in
    let over = c.passed_over.ensures l.sizes l.weights new.size new.weight in
    elim c.if-not-passed_over.branch [
      | then-not-passed_over w ↦ rw (w.sizes-is, w.losses-is, w.weights-is, w.kept-is)
          (turn-kept l.invariant c.entry_at-new.ensures c.requires c.loop-i-test.true (sym over ∙ w.if-not-passed_over.true))
      | else-not-passed_over w ↦ rw (w.sizes-is, w.losses-is, w.weights-is, w.kept-is)
          (turn-dropped l.invariant c.entry_at-new.ensures (sym over ∙ w.if-not-passed_over.false))
    ]
