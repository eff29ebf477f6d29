-- `byte_signals::path_items` meets its contract: five lists are read, the path call is made on them, and three are encoded.
use mathlib.Core.Path.{refl, ap, ◌∙◌}
use mathlib.Core.Bool.{true, false}
use borrow.Author.Tests.{ne_eqb, eq-eqb}
use Rattle.coding.proofs.Models.{models-held, models-fit, models-hold}
use Rattle.coding.proofs.Calls.{returned-as}
use Rattle.path.specs.Model.{lists}
use Rattle.signal.specs.SignalPath.{path_buffers}
use Rattle.byte_signals.specs.Signals.{signal_numbers, signal_path_answers, signal_path_told, signal_path_call}
use Rattle.byte_signals.specs.Inner.{strings_in}
use Rattle.byte_signals.proofs.SignalPaths.{signal_cut, path_cut, signal-path-cut}
use Rattle.byte_signals.proofs.path_items.Goals as goal

pub read_weights-requires : goal.read_weights-requires
read_weights-requires c =
    c.requires.input.weights_fit

pub read-requires : goal.read-requires
read-requires c =
    let a = c.args in
    models-hold (lists a.path_sizes.now a.path_losses.now a.path_weights.now) c.requires.fit refl refl refl

pub write_models-requires : goal.write_models-requires
write_models-requires c =
    let a = c.args in
    let made = c.signal_path-found.auto in
    let models = c.read.auto in
    models-hold (lists a.path_sizes.now a.path_losses.now a.path_weights.now) c.requires.fit
    (made.path_sizes ∙ models.size_items) (made.path_losses ∙ models.loss_items) (made.path_weights ∙ models.weight_items)

pub returns-then-found-ne0 : goal.returns-then-found-ne0
returns-then-found-ne0 c =
    let made = c.signal_path-found in
    let models = c.read in
    let a = c.args in
    let g = a.signal.now in
    let pre = c.requires in
    let after = made.new in
    let stays = made.auto in
    let long = models.auto in
    let items = lists a.size_items.now a.loss_items.now a.path_weight_items.now in
    let left = lists after.path_sizes after.path_losses after.path_weights in
    let strings = lists a.path_sizes.now a.path_losses.now a.path_weights.now in
    let read = signal_numbers a.sample_items.now a.weight_items.now in
    let call = signal_path_call g.max_segments g.min_segment_len in
    returned-as signal_cut path_cut signal_path_answers call (strings_in g) (path_buffers strings a.scratch.now) pre.whole
    (models-held strings c.slice_known-1.given c.slice_known-2-1.given c.slice_known-3-1.given, tt)
    (signal-path-cut g.max_segments g.min_segment_len _ _) read
    (path_buffers items a.scratch.now) (path_buffers left after.scratch) made.result
    (ap signal_path_told made.ensures.outcome
    ∙ (λ i. call (signal_numbers (c.read_items.ensures i) (c.read_weights.ensures i))
    (path_buffers (lists (models.ensures.sizes_are i) (models.ensures.losses_are i) (models.ensures.weights_are i)) a.scratch.now)))
    (pre.input.samples_fit, tt) (models-fit strings pre.fit items refl refl refl, tt)
    (models-fit strings pre.fit left (stays.path_sizes ∙ long.size_items) (stays.path_losses ∙ long.loss_items) (stays.path_weights ∙ long.weight_items), tt)
    false (ne_eqb made.result.refusal 0 c.if-found-ne0.true) _ refl

pub returns : goal.returns
returns c =
    let written = c.write_models.ensures in
    let made = c.signal_path-found in
    let models = c.read in
    let a = c.args in
    let g = a.signal.now in
    let pre = c.requires in
    let after = made.new in
    let stays = made.auto in
    let long = models.auto in
    let items = lists a.size_items.now a.loss_items.now a.path_weight_items.now in
    let left = lists after.path_sizes after.path_losses after.path_weights in
    let strings = lists a.path_sizes.now a.path_losses.now a.path_weights.now in
    let read = signal_numbers a.sample_items.now a.weight_items.now in
    let call = signal_path_call g.max_segments g.min_segment_len in
    returned-as signal_cut path_cut signal_path_answers call (strings_in g) (path_buffers strings a.scratch.now) pre.whole
    (models-held strings c.slice_known-1.given c.slice_known-2-1.given c.slice_known-3-1.given, tt)
    (signal-path-cut g.max_segments g.min_segment_len _ _) read
    (path_buffers items a.scratch.now) (path_buffers left after.scratch) made.result
    (ap signal_path_told made.ensures.outcome
    ∙ (λ i. call (signal_numbers (c.read_items.ensures i) (c.read_weights.ensures i))
    (path_buffers (lists (models.ensures.sizes_are i) (models.ensures.losses_are i) (models.ensures.weights_are i)) a.scratch.now)))
    (pre.input.samples_fit, tt) (models-fit strings pre.fit items refl refl refl, tt)
    (models-fit strings pre.fit left (stays.path_sizes ∙ long.size_items) (stays.path_losses ∙ long.loss_items) (stays.path_weights ∙ long.weight_items), tt)
    true (eq-eqb made.result.refusal 0 c.if-found-ne0.false) _
    (λ i. path_buffers (lists (written.sizes_are i) (written.losses_are i) (written.weights_are i)) after.scratch)
