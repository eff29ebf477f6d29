-- `byte_signals::split_items` meets its contract: seven lists are read, the split is made on them, and five are encoded.
use mathlib.Core.Path.{refl, ap, ◌∙◌}
use mathlib.Core.Bool.{true, false}
use borrow.Author.Tests.{ne_eqb, eq-eqb}
use native.Mathlib.Omega.{arith}
use Rattle.coding.proofs.Strings.{bytes-held}
use Rattle.coding.proofs.Models.{models-held, models-fit, models-hold}
use Rattle.coding.proofs.Calls.{returned-as}
use Rattle.path.specs.Model.{lists}
use Rattle.signal.specs.Split.{split_buffers}
use Rattle.byte_signals.specs.Signals.{signal_numbers, split_strings, split_answers, split_told, split_call}
use Rattle.byte_signals.specs.Inner.{strings_in}
use Rattle.byte_signals.proofs.SignalPaths.{signal_cut}
use Rattle.byte_signals.proofs.Splits.{split_cut, split-cut}
use Rattle.byte_signals.proofs.split_items.Goals as goal

pub read_items-requires : goal.read_items-requires
read_items-requires c = omega (arith, c.requires.input.samples_fit)

pub read_weights-requires : goal.read_weights-requires
read_weights-requires c =
    c.requires.input.weights_fit

pub read_segments-requires : goal.read_segments-requires
read_segments-requires c =
    record { first_has = omega (arith, c.requires.starts_fit); second_has = omega (arith, c.requires.levels_fit) }

pub read-requires : goal.read-requires
read-requires c =
    let a = c.args in
    models-hold (lists a.path_sizes.now a.path_losses.now a.path_weights.now) c.requires.fit refl refl refl

pub write_segments-requires : goal.write_segments-requires
write_segments-requires c =
    let made = c.split-split.auto in
    let segments = c.read_segments.auto in
    let pre = c.requires in
    record {
      first_has = omega (arith, pre.starts_fit, made.starts, segments.start_items);
      second_has = omega (arith, pre.levels_fit, made.levels, segments.level_items);
    }

pub write_models-requires : goal.write_models-requires
write_models-requires c =
    let a = c.args in
    let made = c.split-split.auto in
    let models = c.read.auto in
    models-hold (lists a.path_sizes.now a.path_losses.now a.path_weights.now) c.requires.fit
    (made.path_sizes ∙ models.size_items) (made.path_losses ∙ models.loss_items) (made.path_weights ∙ models.weight_items)

pub returns-then-split-ne0 : goal.returns-then-split-ne0
returns-then-split-ne0 c =
    let made = c.split-split in
    let models = c.read in
    let segments = c.read_segments in
    let a = c.args in
    let g = a.signal.now in
    let pre = c.requires in
    let after = made.new in
    let stays = made.auto in
    let long = models.auto in
    let items = lists a.size_items.now a.loss_items.now a.path_weight_items.now in
    let left = lists after.path_sizes after.path_losses after.path_weights in
    let strings = lists a.path_sizes.now a.path_losses.now a.path_weights.now in
    let read = signal_numbers a.sample_items.now a.weight_items.now in
    let call = split_call g.max_segments g.min_segment_len a.p a.q in
    let input = strings_in g in
    let lent = split_strings a.starts.now a.levels.now strings a.scratch.now in
    returned-as signal_cut split_cut split_answers call input lent pre.whole (
      bytes-held a.starts.now c.slice_known-1.given,
      (
        bytes-held a.levels.now c.slice_known-2-1.given,
        (models-held strings c.slice_known-3-1.given c.slice_known-4-1.given c.slice_known-5-1.given, tt),
      ),
    )
    (split-cut g.max_segments g.min_segment_len a.p a.q _ _) read
    (split_buffers a.start_items.now a.level_items.now items a.scratch.now)
    (split_buffers after.starts after.levels left after.scratch) made.result
    (ap split_told made.ensures.outcome
    ∙ (λ i. call (signal_numbers (c.read_items.ensures i) (c.read_weights.ensures i))
    (split_buffers (segments.ensures.starts_are i) (segments.ensures.levels_are i)
    (lists (models.ensures.sizes_are i) (models.ensures.losses_are i) (models.ensures.weights_are i)) a.scratch.now)))
    (pre.input.samples_fit, tt) (pre.starts_fit, (pre.levels_fit, (models-fit strings pre.fit items refl refl refl, tt))) (
      stays.starts ∙ segments.auto.start_items ∙ pre.starts_fit,
      (
        stays.levels ∙ segments.auto.level_items ∙ pre.levels_fit,
        (models-fit strings pre.fit left (stays.path_sizes ∙ long.size_items) (stays.path_losses ∙ long.loss_items) (stays.path_weights ∙ long.weight_items), tt),
      ),
    )
    false (ne_eqb made.result.refusal 0 c.if-split-ne0.true) _ refl

pub returns : goal.returns
returns c =
    let w = c.write_models.ensures in
    let v = c.write_segments.ensures in
    let made = c.split-split in
    let models = c.read in
    let segments = c.read_segments in
    let a = c.args in
    let g = a.signal.now in
    let pre = c.requires in
    let after = made.new in
    let stays = made.auto in
    let long = models.auto in
    let items = lists a.size_items.now a.loss_items.now a.path_weight_items.now in
    let left = lists after.path_sizes after.path_losses after.path_weights in
    let strings = lists a.path_sizes.now a.path_losses.now a.path_weights.now in
    let read = signal_numbers a.sample_items.now a.weight_items.now in
    let call = split_call g.max_segments g.min_segment_len a.p a.q in
    let input = strings_in g in
    let lent = split_strings a.starts.now a.levels.now strings a.scratch.now in
    returned-as signal_cut split_cut split_answers call input lent pre.whole (
      bytes-held a.starts.now c.slice_known-1.given,
      (
        bytes-held a.levels.now c.slice_known-2-1.given,
        (models-held strings c.slice_known-3-1.given c.slice_known-4-1.given c.slice_known-5-1.given, tt),
      ),
    )
    (split-cut g.max_segments g.min_segment_len a.p a.q _ _) read
    (split_buffers a.start_items.now a.level_items.now items a.scratch.now)
    (split_buffers after.starts after.levels left after.scratch) made.result
    (ap split_told made.ensures.outcome
    ∙ (λ i. call (signal_numbers (c.read_items.ensures i) (c.read_weights.ensures i))
    (split_buffers (segments.ensures.starts_are i) (segments.ensures.levels_are i)
    (lists (models.ensures.sizes_are i) (models.ensures.losses_are i) (models.ensures.weights_are i)) a.scratch.now)))
    (pre.input.samples_fit, tt) (pre.starts_fit, (pre.levels_fit, (models-fit strings pre.fit items refl refl refl, tt))) (
      stays.starts ∙ segments.auto.start_items ∙ pre.starts_fit,
      (
        stays.levels ∙ segments.auto.level_items ∙ pre.levels_fit,
        (models-fit strings pre.fit left (stays.path_sizes ∙ long.size_items) (stays.path_losses ∙ long.loss_items) (stays.path_weights ∙ long.weight_items), tt),
      ),
    )
    true (eq-eqb made.result.refusal 0 c.if-split-ne0.false) _
    (λ i. split_strings (v.starts_are i) (v.levels_are i) (lists (w.sizes_are i) (w.losses_are i) (w.weights_are i)) after.scratch)
