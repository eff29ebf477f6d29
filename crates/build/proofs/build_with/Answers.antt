-- `build::build_with` meets its contract: refused, or copied to the front of the buffers and built there.
use mathlib.Core.Path.{◌≡◌, ap, sym, subst, ◌∙◌}
use native.Mathlib.Omega.{arith}
use lib.ListN.{length}
use lib.Seq.{length-take-le}
use Rattle.std.proofs.lemmas.Result.{err_from_is_err_and}
use Rattle.path.specs.Model.{Lists, lists, lengths}
use Rattle.path.specs.Append.{path_left}
use Rattle.path.specs.Inner.{other_places}
use Rattle.path.proofs.Numbers.{number_some}
use Rattle.path.proofs.PathCuts.{path_longer}
use Rattle.build.specs.Inner.{lists_of, Fillable}
use Rattle.build.proofs.Cases.{with-refused, may-fill, with-done}
use Rattle.build.proofs.BuildCuts.{fitting}
use Rattle.build.proofs.build_with.Goals as goal

pub returns-in_err-check_build : goal.returns-in_err-check_build
returns-in_err-check_build g c =
    let a = c.args in
    let m = g.M.Method in
    let p = err_from_is_err_and c.from_residual.result c.from_residual.ensures.1 in
    rw (p.1, p.2)
    (with-refused m.path m.tests (lists_of a.given.now) (lists a.path_sizes.now a.path_losses.now a.path_weights.now) _ c.in_err-check_build.ensures (number_some c.in_err-check_build.field-0.0))

pub slice_bounds-path_sizes-end : goal.slice_bounds-path_sizes-end
slice_bounds-path_sizes-end g c =
    let a = c.args in
    let fit = fitting (lists_of a.given.now) (lists a.path_sizes.now a.path_losses.now a.path_weights.now) (sym c.in_ok-check_build.ensures) in
    omega (arith, fit.sizes, fit.room.in_sizes)

pub slice_bounds-path_sizes-end-2 : goal.slice_bounds-path_sizes-end-2
slice_bounds-path_sizes-end-2 g c =
    let a = c.args in
    let fit = fitting (lists_of a.given.now) (lists a.path_sizes.now a.path_losses.now a.path_weights.now) (sym c.in_ok-check_build.ensures) in
    sym (length-take-le _ _ (omega (arith, fit.sizes, fit.room.in_sizes)))

pub slice_bounds-path_losses-end : goal.slice_bounds-path_losses-end
slice_bounds-path_losses-end g c =
    let a = c.args in
    let fit = fitting (lists_of a.given.now) (lists a.path_sizes.now a.path_losses.now a.path_weights.now) (sym c.in_ok-check_build.ensures) in
    omega (arith, fit.sizes, fit.room.in_losses)

pub slice_bounds-path_losses-end-2 : goal.slice_bounds-path_losses-end-2
slice_bounds-path_losses-end-2 g c =
    let a = c.args in
    let fit = fitting (lists_of a.given.now) (lists a.path_sizes.now a.path_losses.now a.path_weights.now) (sym c.in_ok-check_build.ensures) in
    sym (length-take-le _ _ (omega (arith, fit.sizes, fit.room.in_losses)))

pub slice_bounds-path_weights-end : goal.slice_bounds-path_weights-end
slice_bounds-path_weights-end g c =
    let a = c.args in
    let fit = fitting (lists_of a.given.now) (lists a.path_sizes.now a.path_losses.now a.path_weights.now) (sym c.in_ok-check_build.ensures) in
    omega (arith, fit.sizes, fit.room.in_weights)

pub slice_bounds-path_weights-end-2 : goal.slice_bounds-path_weights-end-2
slice_bounds-path_weights-end-2 g c =
    let a = c.args in
    let fit = fitting (lists_of a.given.now) (lists a.path_sizes.now a.path_losses.now a.path_weights.now) (sym c.in_ok-check_build.ensures) in
    sym (length-take-le _ _ (omega (arith, fit.sizes, fit.room.in_weights)))

pub copy_from_slice-requires : goal.copy_from_slice-requires
copy_from_slice-requires g c =
    let a = c.args in
    let fit = fitting (lists_of a.given.now) (lists a.path_sizes.now a.path_losses.now a.path_weights.now) (sym c.in_ok-check_build.ensures) in
    omega (arith, length-take-le (length a.given.now.sizes.now) a.path_sizes.now, fit.sizes, fit.sizes, fit.room.in_sizes)

pub copy_from_slice-requires-2 : goal.copy_from_slice-requires-2
copy_from_slice-requires-2 g c =
    let a = c.args in
    let fit = fitting (lists_of a.given.now) (lists a.path_sizes.now a.path_losses.now a.path_weights.now) (sym c.in_ok-check_build.ensures) in
    omega (arith, length-take-le (length a.given.now.sizes.now) a.path_losses.now, fit.sizes, fit.losses, fit.room.in_losses)

pub copy_from_slice-requires-3 : goal.copy_from_slice-requires-3
copy_from_slice-requires-3 g c =
    let a = c.args in
    let fit = fitting (lists_of a.given.now) (lists a.path_sizes.now a.path_losses.now a.path_weights.now) (sym c.in_ok-check_build.ensures) in
    omega (arith, length-take-le (length a.given.now.sizes.now) a.path_weights.now, fit.sizes, fit.weights, fit.room.in_weights)

pub build_over-requires : goal.build_over-requires
build_over-requires g c =
    let a = c.args in
    let given : Lists = lists_of a.given.now in
    let lent : Lists = lists a.path_sizes.now a.path_losses.now a.path_weights.now in
    let copied : lists c.copy_from_slice.new.self c.copy_from_slice-2.new.self c.copy_from_slice-3.new.self ≡ given = λ i. lists (c.copy_from_slice.ensures.after i) (c.copy_from_slice-2.ensures.after i) (c.copy_from_slice-3.ensures.after i) in
    subst Fillable (sym copied) (may-fill given (lengths lent) (sym c.in_ok-check_build.ensures))

pub returns : goal.returns
returns g c =
    let a = c.args in
    let m = g.M.Method in
    let given : Lists = lists_of a.given.now in
    let lent : Lists = lists a.path_sizes.now a.path_losses.now a.path_weights.now in
    let copied : lists c.copy_from_slice.new.self c.copy_from_slice-2.new.self c.copy_from_slice-3.new.self ≡ given = λ i. lists (c.copy_from_slice.ensures.after i) (c.copy_from_slice-2.ensures.after i) (c.copy_from_slice-3.ensures.after i) in
    ap (path_longer (other_places (length given.sizes) lent))
    (c.build_over.ensures ∙ ap (λ (t : Lists). path_left (m.path t (length t.sizes)) (m.tests t (length t.sizes)) (length t.sizes) t) copied)
    ∙ with-done m.path m.tests g.met.M.Method.few given lent (sym c.in_ok-check_build.ensures)
