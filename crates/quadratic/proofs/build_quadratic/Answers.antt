-- `quadratic::build_quadratic` meets its contract: it is the build by this method.
use mathlib.Core.Path.{ap, ◌∙◌}
use Rattle.path.specs.Model.{lists}
use Rattle.path.specs.declared.PathResult.{PathResult}
use Rattle.path.specs.Append.{path_outcome}
use Rattle.quadratic.proofs.Cases.{quadratic-is}
use Rattle.quadratic.proofs.build_quadratic.Goals as goal

pub returns : goal.returns
returns c =
    let a = c.args in
    let b = c.build_with in
    ap (λ (x : PathResult). path_outcome x (lists b.new.path_sizes b.new.path_losses b.new.path_weights)) c.from.ensures
    ∙ b.ensures
    ∙ quadratic-is (lists a.sizes.now a.losses.now a.weights.now) (lists a.path_sizes.now a.path_losses.now a.path_weights.now)
