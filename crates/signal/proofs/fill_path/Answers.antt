-- `signal::fill_path` meets its contract. The loop's invariant: the buffers hold the path of sizes 1 to i.
use mathlib.Core.Path.{refl, ap, sym, ◌∙◌}
use Prim.Native.Nat.{◌+◌, ◌≤◌}
use native.Mathlib.Omega.{arith}
use lib.ListN.{length, get_or}
use Rattle.path.specs.Model.{Model, model, lists, path_of}
use Rattle.path.specs.Inner.{Held, kept_of}
use Rattle.path.proofs.Held.{set_model}
use Rattle.path.specs.declared.Kept.{Kept}
use Rattle.path.specs.declared.tally.Tally.{Tally}
use Rattle.weights.specs.Weights.{weight_at}
use Rattle.signal.specs.Signal.{path_by}
use Rattle.signal.specs.Inner.{losses_in}
use Rattle.signal.proofs.Paths.{held_start, below-front, turn-skipped, turn-may-try, turn-kept, turn-pushed}
use Rattle.signal.proofs.fill_path.Goals as goal
use Rattle.signal.proofs.fill_path.Goals.{After-try_model-found, then-loss_below, else-loss_below}

pub loop-i-init : goal.loop-i-init
loop-i-init c =
    let a = c.args in
    held_start a.weights.now (losses_in a.losses.now) (lists a.path_sizes.now a.path_losses.now a.path_weights.now)

pub try_model-found-requires : goal.try_model-found-requires
try_model-found-requires c =
    let a = c.args in
    let lp = c.loop-i in
    let t₀ = lists a.path_sizes.now a.path_losses.now a.path_weights.now in
    let t = lists lp.path_sizes lp.path_losses lp.path_weights in
    let w = c.weight_at-weight in
    let fits : lp.entries ≤ length lp.path_losses = omega (arith, lp.invariant.losses.long, lp.invariant.most, c.requires.fits.in_losses) in
    turn-may-try a.weights.now a.losses.now t₀ t lp.entries lp.i c.requires c.loop-i-test.true lp.invariant w.result w.ensures
    (sym (below-front t lp.entries (model (lp.i + 1) (get_or a.losses.now lp.i 0) w.result) c.loss_below.result fits c.loss_below.ensures) ∙ c.if-loss_below.true) c.none.result.count (ap (λ (x : Tally). x.count) c.none.ensures)

-- The new model keeps no more entries than there have been sizes, so that there is room for it.
kept : (c : After-try_model-found) → c.try_model-found.result.entries ≤ c.loop-i.i
kept c =
    let a = c.args in
    let lp = c.loop-i in
    let t₀ = lists a.path_sizes.now a.path_losses.now a.path_weights.now in
    let t = lists lp.path_sizes lp.path_losses lp.path_weights in
    let w = c.weight_at-weight in
    let fits : lp.entries ≤ length lp.path_losses = omega (arith, lp.invariant.losses.long, lp.invariant.most, c.requires.fits.in_losses) in
    let all = kept_of (path_of t lp.entries) (model (lp.i + 1) (get_or a.losses.now lp.i 0) w.result) c.none.result.count in
    turn-kept a.weights.now a.losses.now t₀ t lp.entries lp.i c.requires c.loop-i-test.true lp.invariant w.result w.ensures
    (sym (below-front t lp.entries (model (lp.i + 1) (get_or a.losses.now lp.i 0) w.result) c.loss_below.result fits c.loss_below.ensures) ∙ c.if-loss_below.true)
    c.try_model-found.result.entries (ap (λ (x : Kept). x.entries) {y = all} (c.try_model-found.ensures lp.path_sizes (lp.i + 1)))

pub offset_bounds-path_sizes-kept : goal.offset_bounds-path_sizes-kept
offset_bounds-path_sizes-kept c = omega (arith, kept (goal.at.offset_bounds-path_sizes-kept c).After-try_model-found, c.requires.few)

pub bounds-path_sizes-kept : goal.bounds-path_sizes-kept
bounds-path_sizes-kept c = omega (arith, kept (goal.at.bounds-path_sizes-kept c).After-try_model-found, c.loop-i.invariant.sizes.long, c.requires.fits.in_sizes)

pub offset_bounds-path_losses-kept : goal.offset_bounds-path_losses-kept
offset_bounds-path_losses-kept c = omega (arith, kept (goal.at.offset_bounds-path_losses-kept c).After-try_model-found, c.requires.few)

pub bounds-path_losses-kept : goal.bounds-path_losses-kept
bounds-path_losses-kept c = omega (arith, kept (goal.at.bounds-path_losses-kept c).After-try_model-found, c.loop-i.invariant.losses.long, c.requires.fits.in_losses)

pub offset_bounds-path_weights-kept : goal.offset_bounds-path_weights-kept
offset_bounds-path_weights-kept c = omega (arith, kept (goal.at.offset_bounds-path_weights-kept c).After-try_model-found, c.requires.few)

pub bounds-path_weights-kept : goal.bounds-path_weights-kept
bounds-path_weights-kept c = omega (arith, kept (goal.at.bounds-path_weights-kept c).After-try_model-found, c.loop-i.invariant.weights.long, c.requires.fits.in_weights)

pub overflow_add-entries : goal.overflow_add-entries
overflow_add-entries c = omega (arith, kept (goal.at.overflow_add-entries c).After-try_model-found, c.requires.few)

pub loop-i-preserved : goal.loop-i-preserved
loop-i-preserved c =
    let a = c.args in
    let lp = c.loop-i in
    let t₀ = lists a.path_sizes.now a.path_losses.now a.path_weights.now in
    let t = lists lp.path_sizes lp.path_losses lp.path_weights in
    let fits : lp.entries ≤ length lp.path_losses = omega (arith, lp.invariant.losses.long, lp.invariant.most, c.requires.fits.in_losses) in
    elim c.if-loss_below.branch [
      | then-loss_below w ↦
          let v = w.weight_at-weight in
          let m : Model = model (lp.i + 1) (get_or a.losses.now lp.i 0) v.result in
          let found = w.try_model-found in
          let all = kept_of (path_of t lp.entries) m w.none.result.count in
          let pushed : Held (path_by a.weights.now (losses_in a.losses.now) (lp.i + 1)) t₀ (set_model t found.result.entries m) (found.result.entries + 1) (lp.i + 1) =
          turn-pushed a.weights.now a.losses.now t₀ t lp.entries lp.i c.requires c.loop-i-test.true lp.invariant v.result v.ensures
          (sym (below-front t lp.entries m c.loss_below.result fits c.loss_below.ensures) ∙ w.if-loss_below.true) found.result.entries
          (ap (λ (x : Kept). x.entries) {y = all} (found.ensures lp.path_sizes (lp.i + 1))) in
          rw (w.path_sizes-is, w.path_losses-is, w.path_weights-is, w.entries-is) pushed
      | else-loss_below w ↦
          let weight = weight_at a.weights.now lp.i in
          let skipped : Held (path_by a.weights.now (losses_in a.losses.now) (lp.i + 1)) t₀ t lp.entries (lp.i + 1) =
          turn-skipped a.weights.now a.losses.now t₀ t lp.entries lp.i c.requires c.loop-i-test.true lp.invariant weight refl
          (sym (below-front t lp.entries (model (lp.i + 1) (get_or a.losses.now lp.i 0) weight) c.loss_below.result fits c.loss_below.ensures) ∙ w.if-loss_below.false) in
          rw (w.path_sizes-is, w.path_losses-is, w.path_weights-is, w.entries-is) skipped
    ]
