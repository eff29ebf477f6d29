-- `quadratic::drop_passed` meets its contract. The loop's invariant: the lists hold those of the first i models that are not passed over,
-- and from place i on they are as they were, so that the models to come still stand there.
use Rattle.path.specs.Model.{lists, path_of}
use Rattle.path.specs.Update.{tried}
use Rattle.path.specs.Inner.{Held}
use Rattle.quadratic.proofs.drop_passed.Given as goal

abbrev pub invariant-loop-i : goal.invariant-loop-i
invariant-loop-i l =
    let old = lists l.initial.sizes l.initial.losses l.initial.weights in
    Held (tried (path_of old l.i)) old (lists l.sizes l.losses l.weights) l.kept l.i
