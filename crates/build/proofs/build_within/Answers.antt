-- `build::build_within` meets its contract: refused, or built where the models are.
use mathlib.Core.Path.{sym, ◌∙◌}
use Rattle.std.proofs.lemmas.Result.{err_from_is_err_and}
use Rattle.path.specs.Model.{lists}
use Rattle.path.proofs.Numbers.{number_some}
use Rattle.build.proofs.Cases.{within-refused, may-fill, within-done}
use Rattle.build.proofs.build_within.Goals as goal

pub returns-in_err-check_build : goal.returns-in_err-check_build
returns-in_err-check_build g c =
    let a = c.args in
    let m = g.M.Method in
    let p = err_from_is_err_and c.from_residual.result c.from_residual.ensures.1 in
    rw (p.1, p.2) (within-refused m.path m.tests (lists a.sizes.now a.losses.now a.weights.now) a.rooms _ c.in_err-check_build.ensures (number_some c.in_err-check_build.field-0.0))

pub build_over-requires : goal.build_over-requires
build_over-requires g c =
    let a = c.args in
    may-fill (lists a.sizes.now a.losses.now a.weights.now) a.rooms (sym c.in_ok-check_build.ensures)

pub returns : goal.returns
returns g c =
    let a = c.args in
    let m = g.M.Method in
    c.build_over.ensures ∙ within-done m.path m.tests (lists a.sizes.now a.losses.now a.weights.now) a.rooms (sym c.in_ok-check_build.ensures)
