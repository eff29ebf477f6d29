-- `byte_streams::split_from` meets its contract: refused under 11, or the split by lists of as many items as are looked at.
use mathlib.Core.Path.{refl, ap, sym, ◌∙◌}
use Prim.Native.Nat.{ℕ}
use native.Mathlib.Omega.{arith}
use lib.IntN.{ℤ, pos}
use Rattle.coding.specs.Coding.{outcome, signeds}
use Rattle.coding.proofs.Strings.{front_length, front_fits}
use Rattle.coding.proofs.Calls.{eleven}
use Rattle.stream.specs.Table.{max_rows}
use Rattle.stream.specs.declared.SplitFromResult.{SplitFromResult}
use Rattle.byte_signals.specs.Inner.{read_samples}
use Rattle.byte_streams.specs.Streams.{segment_strings, segments_coding, split_from_answers, split_from_call}
use Rattle.byte_streams.proofs.split_from.Goals as goal

pub returns-then-samples-starts-ne0 : goal.returns-then-samples-starts-ne0
returns-then-samples-starts-ne0 c =
    let a = c.args in
    let call = split_from_call a.max_segments a.p a.q a.table.now in
    ap (λ (r : SplitFromResult). outcome r (segment_strings a.starts.now a.levels.now)) c.from.ensures
    ∙ eleven signeds segments_coding split_from_answers call a.samples.now (segment_strings a.starts.now a.levels.now) (λ e. c.if-samples-starts-ne0.true (omega arith))

pub slice_bounds-split_from_items-end : goal.slice_bounds-split_from_items-end
slice_bounds-split_from_items-end c =
    sym (front_length {A = ℤ} (pos 0) read_samples _ (omega (arith, c.min-n.ensures)))

pub slice_bounds-split_from_items-end-2 : goal.slice_bounds-split_from_items-end-2
slice_bounds-split_from_items-end-2 c =
    sym (front_length {A = ℕ} 0 max_rows _ (omega (arith, c.min-a.ensures)))

pub slice_bounds-split_from_items-end-3 : goal.slice_bounds-split_from_items-end-3
slice_bounds-split_from_items-end-3 c =
    sym (front_length {A = ℤ} (pos 0) max_rows _ (omega (arith, c.min-b.ensures)))

pub split_from_items-requires : goal.split_from_items-requires
split_from_items-requires c =
    record {
      whole = omega (arith, c.if-samples-starts-ne0.false);
      samples_fit = front_fits {A = ℤ} (pos 0) read_samples _ _ c.min-n.ensures refl (omega arith);
      starts_fit = front_fits {A = ℕ} 0 max_rows _ _ c.min-a.ensures refl (omega arith);
      levels_fit = front_fits {A = ℤ} (pos 0) max_rows _ _ c.min-b.ensures refl (omega arith);
    }

pub returns : goal.returns
returns c =
    let after = c.split_from_items.new in
    ap (λ (r : SplitFromResult). outcome r (segment_strings after.starts after.levels)) c.from-2.ensures ∙ c.split_from_items.ensures
