-- `byte_streams::extend` meets its contract: refused under 11, or the extension by lists of as many items as are looked at.
use mathlib.Core.Path.{refl, ap, sym, ◌∙◌}
use Prim.Native.Nat.{ℕ}
use native.Mathlib.Omega.{arith}
use lib.IntN.{ℤ, pos}
use mir.Syntax.{w16}
use mir.Facts.{to_z-of_z}
use Rattle.coding.specs.Coding.{outcome, signeds}
use Rattle.coding.proofs.Strings.{front_length, front_fits}
use Rattle.coding.proofs.Models.{fronts-fit}
use Rattle.coding.proofs.Calls.{eleven}
use Rattle.path.specs.Model.{lists}
use Rattle.stream.specs.Table.{max_rows}
use Rattle.stream.specs.Extend.{stream_buffers}
use Rattle.stream.specs.declared.ExtendResult.{ExtendResult}
use Rattle.byte_signals.specs.Inner.{read_samples}
use Rattle.byte_streams.specs.Streams.{stream_coding, extend_answers, extend_call, extend_bytes_of}
use Rattle.byte_streams.proofs.extend.Goals as goal

pub returns-then-spare-ne0 : goal.returns-then-spare-ne0
returns-then-spare-ne0 c =
    let a = c.args in
    let lent = stream_buffers a.table.now (lists a.path_sizes.now a.path_losses.now a.path_weights.now) in
    ap (λ (r : ExtendResult). outcome r lent) c.from.ensures
    ∙ eleven signeds stream_coding extend_answers (extend_call a.sample a.max_segments) a.samples.now lent (λ e. c.if-spare-ne0.true (omega (arith, c.spare.ensures)))

pub slice_bounds-sample_items-end : goal.slice_bounds-sample_items-end
slice_bounds-sample_items-end c = omega (arith, c.min-n.ensures)

pub slice_bounds-extend_items-end : goal.slice_bounds-extend_items-end
slice_bounds-extend_items-end c = sym (front_length {A = ℤ} (pos 0) read_samples _ (omega (arith, c.min-n.ensures)))

pub slice_bounds-size_items-end : goal.slice_bounds-size_items-end
slice_bounds-size_items-end c = omega (arith, c.min-s.ensures)

pub slice_bounds-extend_items-end-2 : goal.slice_bounds-extend_items-end-2
slice_bounds-extend_items-end-2 c = sym (front_length {A = ℕ} 0 max_rows _ (omega (arith, c.min-s.ensures)))

pub slice_bounds-loss_items-end : goal.slice_bounds-loss_items-end
slice_bounds-loss_items-end c = omega (arith, c.min-l.ensures)

pub slice_bounds-extend_items-end-3 : goal.slice_bounds-extend_items-end-3
slice_bounds-extend_items-end-3 c = sym (front_length {A = ℕ} 0 max_rows _ (omega (arith, c.min-l.ensures)))

pub slice_bounds-path_weight_items-end : goal.slice_bounds-path_weight_items-end
slice_bounds-path_weight_items-end c = omega (arith, c.min-w.ensures)

pub slice_bounds-extend_items-end-4 : goal.slice_bounds-extend_items-end-4
slice_bounds-extend_items-end-4 c = sym (front_length {A = ℕ} 0 max_rows _ (omega (arith, c.min-w.ensures)))

pub extend_items-requires : goal.extend_items-requires
extend_items-requires c =
    let a = c.args in
    let strings = lists a.path_sizes.now a.path_losses.now a.path_weights.now in
    record {
      whole = omega (arith, c.spare.ensures, c.if-spare-ne0.false);
      samples_fit = front_fits {A = ℤ} (pos 0) read_samples _ _ c.min-n.ensures refl (omega arith);
      fit = fronts-fit strings max_rows max_rows c.min-s.ensures c.min-l.ensures c.min-w.ensures refl (omega arith);
    }

pub returns : goal.returns
returns c =
    let a = c.args in
    let lent = stream_buffers a.table.now (lists a.path_sizes.now a.path_losses.now a.path_weights.now) in
    let after = c.extend_items.new in
    ap (λ (r : ExtendResult). outcome r (stream_buffers after.table (lists after.path_sizes after.path_losses after.path_weights))) c.from-2.ensures
    ∙ c.extend_items.ensures
    ∙ ap (λ (x : ℤ). extend_bytes_of a.samples.now x a.max_segments lent) (to_z-of_z {w = w16} c.ranges.sample)
