-- `byte_paths::build_with` meets its contract: refused under 11, or the build in lists of as many items as are looked at.
use mathlib.Core.Path.{refl, ap, sym, ◌∙◌}
use Prim.Native.Nat.{ℕ}
use native.Mathlib.Omega.{arith}
use Rattle.coding.specs.Coding.{outcome}
use Rattle.coding.specs.Models.{models_coding}
use Rattle.coding.proofs.Strings.{front_length}
use Rattle.coding.proofs.Models.{fronts-fit}
use Rattle.coding.proofs.Calls.{eleven}
use Rattle.path.specs.Model.{Lists, lists}
use Rattle.path.specs.declared.PathResult.{PathResult}
use Rattle.build.specs.Inner.{build_with}
use Rattle.byte_paths.specs.Paths.{path_answers, path_told}
use Rattle.byte_paths.specs.Inner.{models_read}
use Rattle.byte_paths.proofs.build_with.Goals as goal

pub returns-then-spare-ne0 : goal.returns-then-spare-ne0
returns-then-spare-ne0 g c =
    let a = c.args in
    let m = g.M.Method in
    let x = lists a.sizes.now a.losses.now a.weights.now in
    let lent = lists a.path_sizes.now a.path_losses.now a.path_weights.now in
    ap (λ (r : PathResult). outcome r lent) c.from.ensures
    ∙ eleven models_coding models_coding path_answers (λ (given t : Lists). path_told (build_with m.path m.tests given t)) x lent
    (λ e. c.if-spare-ne0.true (omega (arith, c.spare.ensures, c.spare-2.ensures)))

pub slice_bounds-size_items-end : goal.slice_bounds-size_items-end
slice_bounds-size_items-end g c = omega (arith, c.min-a.ensures)

pub slice_bounds-build_items-end : goal.slice_bounds-build_items-end
slice_bounds-build_items-end g c = sym (front_length {A = ℕ} 0 models_read _ (omega (arith, c.min-a.ensures)))

pub slice_bounds-loss_items-end : goal.slice_bounds-loss_items-end
slice_bounds-loss_items-end g c = omega (arith, c.min-b.ensures)

pub slice_bounds-build_items-end-2 : goal.slice_bounds-build_items-end-2
slice_bounds-build_items-end-2 g c = sym (front_length {A = ℕ} 0 models_read _ (omega (arith, c.min-b.ensures)))

pub slice_bounds-weight_items-end : goal.slice_bounds-weight_items-end
slice_bounds-weight_items-end g c = omega (arith, c.min-c.ensures)

pub slice_bounds-build_items-end-3 : goal.slice_bounds-build_items-end-3
slice_bounds-build_items-end-3 g c = sym (front_length {A = ℕ} 0 models_read _ (omega (arith, c.min-c.ensures)))

pub build_items-requires : goal.build_items-requires
build_items-requires g c =
    let a = c.args in
    record {
      whole = omega (arith, c.spare.ensures, c.spare-2.ensures, c.if-spare-ne0.false);
      given = fronts-fit (lists a.sizes.now a.losses.now a.weights.now) models_read _ c.min-a.ensures c.min-b.ensures c.min-c.ensures refl (omega arith);
    }

pub returns : goal.returns
returns g c =
    let after = c.build_items.new in
    ap (λ (r : PathResult). outcome r (lists after.path_sizes after.path_losses after.path_weights)) c.from-2.ensures ∙ c.build_items.ensures
