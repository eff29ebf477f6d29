-- `byte_signals::split` meets its contract: refused under 11, or the call by lists of as many items as are looked at.
use mathlib.Core.Path.{refl, ap, sym, ◌∙◌}
use Rattle.coding.specs.Coding.{outcome}
use Rattle.signal.specs.declared.SplitResult.{SplitResult}
use Prim.Native.Nat.{ℕ}
use native.Mathlib.Omega.{arith}
use lib.IntN.{ℤ, pos}
use Rattle.least.specs.Segmentation.{max_segments}
use Rattle.coding.proofs.Strings.{front_length, front_fits}
use Rattle.coding.proofs.Models.{fronts-fit}
use Rattle.coding.proofs.Calls.{eleven}
use Rattle.path.specs.Model.{lists}
use Rattle.byte_signals.specs.Signals.{signal_strings, signal_coding, split_strings, split_coding, split_answers, split_call}
use Rattle.byte_signals.specs.Inner.{read_samples, read_weights}
use Rattle.byte_signals.proofs.split.Goals as goal

pub returns-then-spare-starts-ne0 : goal.returns-then-spare-starts-ne0
returns-then-spare-starts-ne0 c =
    let a = c.args in
    let strings = lists a.path_sizes.now a.path_losses.now a.path_weights.now in
    let input = signal_strings a.samples.now a.weights.now in
    let lent = split_strings a.starts.now a.levels.now strings a.scratch.now in
    let call = split_call a.max_segments a.min_segment_len a.p a.q in
    ap (λ (n : ℕ). outcome {A = SplitResult} (record { refusal = n; segments = 0; loss = 0; entries = 0 }) lent) c.from.ensures
    ∙ eleven signal_coding split_coding split_answers call input lent (λ e. c.if-spare-starts-ne0.true (omega (arith, c.spare.ensures, c.spare-2.ensures)))

pub slice_bounds-sample_items-end : goal.slice_bounds-sample_items-end
slice_bounds-sample_items-end c = omega (arith, c.min-n.ensures)

pub slice_bounds-split_items-end : goal.slice_bounds-split_items-end
slice_bounds-split_items-end c = sym (front_length {A = ℤ} (pos 0) read_samples _ (omega (arith, c.min-n.ensures)))

pub slice_bounds-weight_items-end : goal.slice_bounds-weight_items-end
slice_bounds-weight_items-end c = omega (arith, c.min-v.ensures)

pub slice_bounds-split_items-end-2 : goal.slice_bounds-split_items-end-2
slice_bounds-split_items-end-2 c = sym (front_length {A = ℕ} 0 read_weights _ (omega (arith, c.min-v.ensures)))

pub slice_bounds-start_items-end : goal.slice_bounds-start_items-end
slice_bounds-start_items-end c = omega (arith, c.min-a.ensures)

pub slice_bounds-split_items-end-3 : goal.slice_bounds-split_items-end-3
slice_bounds-split_items-end-3 c = sym (front_length {A = ℕ} 0 max_segments _ (omega (arith, c.min-a.ensures)))

pub slice_bounds-level_items-end : goal.slice_bounds-level_items-end
slice_bounds-level_items-end c = omega (arith, c.min-b.ensures)

pub slice_bounds-split_items-end-4 : goal.slice_bounds-split_items-end-4
slice_bounds-split_items-end-4 c = sym (front_length {A = ℤ} (pos 0) max_segments _ (omega (arith, c.min-b.ensures)))

pub slice_bounds-size_items-end : goal.slice_bounds-size_items-end
slice_bounds-size_items-end c = omega (arith, c.min-s.ensures)

pub slice_bounds-split_items-end-5 : goal.slice_bounds-split_items-end-5
slice_bounds-split_items-end-5 c = sym (front_length {A = ℕ} 0 max_segments _ (omega (arith, c.min-s.ensures)))

pub slice_bounds-loss_items-end : goal.slice_bounds-loss_items-end
slice_bounds-loss_items-end c = omega (arith, c.min-l.ensures)

pub slice_bounds-split_items-end-6 : goal.slice_bounds-split_items-end-6
slice_bounds-split_items-end-6 c = sym (front_length {A = ℕ} 0 max_segments _ (omega (arith, c.min-l.ensures)))

pub slice_bounds-path_weight_items-end : goal.slice_bounds-path_weight_items-end
slice_bounds-path_weight_items-end c = omega (arith, c.min-w.ensures)

pub slice_bounds-split_items-end-7 : goal.slice_bounds-split_items-end-7
slice_bounds-split_items-end-7 c = sym (front_length {A = ℕ} 0 max_segments _ (omega (arith, c.min-w.ensures)))

pub split_items-requires : goal.split_items-requires
split_items-requires c =
    let a = c.args in
    let strings = lists a.path_sizes.now a.path_losses.now a.path_weights.now in
    record {
      whole = omega (arith, c.spare.ensures, c.spare-2.ensures, c.if-spare-starts-ne0.false);
      input = record {
        samples_fit = front_fits {A = ℤ} (pos 0) read_samples _ _ c.min-n.ensures refl (omega arith);
        weights_fit = front_fits {A = ℕ} 0 read_weights _ _ c.min-v.ensures refl (omega arith);
      };
      starts_fit = front_fits {A = ℕ} 0 max_segments _ _ c.min-a.ensures refl (omega arith);
      levels_fit = front_fits {A = ℤ} (pos 0) max_segments _ _ c.min-b.ensures refl (omega arith);
      fit = fronts-fit strings max_segments max_segments c.min-s.ensures c.min-l.ensures c.min-w.ensures refl (omega arith);
    }
