-- `build::build` meets its contract: it is the build that pushes the models one by one.
use mathlib.Core.Path.{ap, ◌∙◌}
use Rattle.path.specs.Model.{lists}
use Rattle.path.specs.declared.PathResult.{PathResult}
use Rattle.path.specs.Append.{path_outcome}
use Rattle.build.proofs.Cases.{build-is}
use Rattle.build.proofs.build.Goals as goal

pub returns : goal.returns
returns c =
    let a = c.args in
    let b = c.build_with in
    ap (λ (x : PathResult). path_outcome x (lists b.new.path_sizes b.new.path_losses b.new.path_weights)) c.from.ensures
    ∙ b.ensures
    ∙ build-is (lists a.sizes.now a.losses.now a.weights.now) (lists a.path_sizes.now a.path_losses.now a.path_weights.now)
