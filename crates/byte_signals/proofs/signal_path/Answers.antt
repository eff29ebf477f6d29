-- `byte_signals::signal_path` meets its contract: refused under 11, or the call by lists of as many items as are looked at.
use mathlib.Core.Path.{refl, ap, sym, ◌∙◌}
use Prim.Native.Nat.{ℕ}
use native.Mathlib.Omega.{arith}
use lib.IntN.{ℤ, pos}
use Rattle.least.specs.Segmentation.{max_segments}
use Rattle.coding.proofs.Strings.{front_length, front_fits}
use Rattle.coding.proofs.Models.{fronts-fit}
use Rattle.coding.proofs.Calls.{eleven}
use Rattle.path.specs.Model.{lists}
use Rattle.coding.specs.Coding.{outcome}
use Rattle.signal.specs.SignalPath.{path_buffers}
use Rattle.signal.specs.declared.SignalPathResult.{SignalPathResult}
use Rattle.byte_signals.specs.Signals.{signal_strings, signal_coding, path_coding, signal_path_answers, signal_path_call}
use Rattle.byte_signals.specs.Inner.{read_samples, read_weights}
use Rattle.byte_signals.proofs.signal_path.Goals as goal

pub returns-then-spare-ne0 : goal.returns-then-spare-ne0
returns-then-spare-ne0 c =
    let a = c.args in
    let strings = lists a.path_sizes.now a.path_losses.now a.path_weights.now in
    let input = signal_strings a.samples.now a.weights.now in
    let call = signal_path_call a.max_segments a.min_segment_len in
    ap (λ (r : SignalPathResult). outcome r (path_buffers strings a.scratch.now)) c.from.ensures
    ∙ eleven signal_coding path_coding signal_path_answers call input (path_buffers strings a.scratch.now) (λ e. c.if-spare-ne0.true (omega (arith, c.spare.ensures, c.spare-2.ensures)))

pub slice_bounds-sample_items-end : goal.slice_bounds-sample_items-end
slice_bounds-sample_items-end c = omega (arith, c.min-n.ensures)

pub slice_bounds-path_items-end : goal.slice_bounds-path_items-end
slice_bounds-path_items-end c = sym (front_length {A = ℤ} (pos 0) read_samples _ (omega (arith, c.min-n.ensures)))

pub slice_bounds-weight_items-end : goal.slice_bounds-weight_items-end
slice_bounds-weight_items-end c = omega (arith, c.min-v.ensures)

pub slice_bounds-path_items-end-2 : goal.slice_bounds-path_items-end-2
slice_bounds-path_items-end-2 c = sym (front_length {A = ℕ} 0 read_weights _ (omega (arith, c.min-v.ensures)))

pub slice_bounds-size_items-end : goal.slice_bounds-size_items-end
slice_bounds-size_items-end c = omega (arith, c.min-s.ensures)

pub slice_bounds-path_items-end-3 : goal.slice_bounds-path_items-end-3
slice_bounds-path_items-end-3 c = sym (front_length {A = ℕ} 0 max_segments _ (omega (arith, c.min-s.ensures)))

pub slice_bounds-loss_items-end : goal.slice_bounds-loss_items-end
slice_bounds-loss_items-end c = omega (arith, c.min-l.ensures)

pub slice_bounds-path_items-end-4 : goal.slice_bounds-path_items-end-4
slice_bounds-path_items-end-4 c = sym (front_length {A = ℕ} 0 max_segments _ (omega (arith, c.min-l.ensures)))

pub slice_bounds-path_weight_items-end : goal.slice_bounds-path_weight_items-end
slice_bounds-path_weight_items-end c = omega (arith, c.min-w.ensures)

pub slice_bounds-path_items-end-5 : goal.slice_bounds-path_items-end-5
slice_bounds-path_items-end-5 c = sym (front_length {A = ℕ} 0 max_segments _ (omega (arith, c.min-w.ensures)))

pub path_items-requires : goal.path_items-requires
path_items-requires c =
    let a = c.args in
    let strings = lists a.path_sizes.now a.path_losses.now a.path_weights.now in
    record {
      whole = omega (arith, c.spare.ensures, c.spare-2.ensures, c.if-spare-ne0.false);
      input = record {
        samples_fit = front_fits {A = ℤ} (pos 0) read_samples _ _ c.min-n.ensures refl (omega arith);
        weights_fit = front_fits {A = ℕ} 0 read_weights _ _ c.min-v.ensures refl (omega arith);
      };
      fit = fronts-fit strings max_segments max_segments c.min-s.ensures c.min-l.ensures c.min-w.ensures refl (omega arith);
    }
