-- `build::Linear::fill` meets its contract. The loop's invariant: the lists hold the path of the first i models, and from place i on they
-- are as they were, so that the models to come still stand there.
use Rattle.path.specs.Model.{lists}
use Rattle.build.specs.Inner.{BuiltIn}
use Rattle.build.proofs.LinearMethod.fill.Given as goal

abbrev pub invariant-loop-i : goal.invariant-loop-i
invariant-loop-i l =
    let old = lists l.initial.sizes l.initial.losses l.initial.weights in
    BuiltIn old old (lists l.sizes l.losses l.weights) l.made.entries l.made.tests.count l.i
