-- `byte_streams::extend_items` meets its contract: four lists are read, the extension is made on them, and where it is accepted three are
-- written back.
use mathlib.Core.Path.{◌≡◌, refl, ap, sym, ◌∙◌}
use Prim.Native.Nat.{ℕ}
use lib.Dec.{eqb}
use borrow.Author.Tests.{ne_eqb}
use mir.Syntax.{w16}
use mir.Facts.{to_z-of_z}
use Rattle.std.proofs.lemmas.Result.{err_from_is_err_and}
use Rattle.std.proofs.Common.{Result, Ok, Err}
use Rattle.coding.specs.Coding.{outcome}
use Rattle.coding.proofs.Models.{models-held, models-fit, models-hold}
use Rattle.coding.proofs.Calls.{returned}
use Rattle.path.specs.Model.{lists}
use Rattle.path.specs.Numbers.{number_of}
use Rattle.path.specs.declared.refusal.Refusal.{Refusal}
use Rattle.path.proofs.Numbers.{number_some}
use Rattle.stream.specs.Extend.{StreamBuffers, stream_buffers}
use Rattle.stream.specs.Inner.{extend_result}
use Rattle.byte_signals.proofs.SignalPaths.{samples_cut}
use Rattle.byte_streams.specs.Streams.{extend_answers, extend_told, extend_call, extend_bytes_of}
use Rattle.byte_streams.proofs.StreamCuts.{stream_cut, extend_cut}
use Rattle.byte_streams.proofs.extend_items.Goals as goal
use Rattle.byte_streams.proofs.extend_items.Goals.{After-extend_checked}

-- Strings that are left as the extension on the lists answers are what is owed.
done : (c : After-extend_checked) (o : Result ℕ Refusal) → c.extend_checked.result ≡ o → (final : StreamBuffers)
    → (let a = c.args in let n = c.extend_checked.new in let b = stream_buffers a.table.now (lists a.path_sizes.now a.path_losses.now a.path_weights.now) in
    final ≡ stream_cut.left (eqb (extend_result o).refusal 0) b (stream_buffers n.table (lists n.path_sizes n.path_losses n.path_weights))
    → outcome (extend_result o) final ≡ extend_bytes_of a.samples.now a.sample a.max_segments b)
done c o was final e =
    let made = c.extend_checked in
    let models = c.read in
    let a = c.args in
    let pre = c.requires in
    let after = made.new in
    let stays = made.auto in
    let long = models.auto in
    let items = lists a.size_items.now a.loss_items.now a.path_weight_items.now in
    let left = lists after.path_sizes after.path_losses after.path_weights in
    let strings = lists a.path_sizes.now a.path_losses.now a.path_weights.now in
    let bits = to_z-of_z {w = w16} c.ranges.sample in
    returned samples_cut stream_cut extend_answers (extend_call a.sample a.max_segments) a.samples.now (stream_buffers a.table.now strings) pre.whole
    (tt, models-held strings c.slice_known-2-1.given c.slice_known-3-1.given c.slice_known-4-1.given)
    (extend_cut a.sample a.max_segments _ _) a.sample_items.now (stream_buffers a.table.now items) (stream_buffers after.table left) (extend_result o)
    (ap extend_told (rw was at made.ensures.outcome)
    ∙ (λ i. extend_call (bits i) a.max_segments (c.read_items.ensures i)
    (stream_buffers a.table.now (lists (models.ensures.sizes_are i) (models.ensures.losses_are i) (models.ensures.weights_are i)))))
    pre.samples_fit (tt, models-fit strings pre.fit items refl refl refl)
    (tt, models-fit strings pre.fit left (stays.path_sizes ∙ long.size_items) (stays.path_losses ∙ long.loss_items) (stays.path_weights ∙ long.weight_items))
    final e

pub read-requires : goal.read-requires
read-requires c =
    let a = c.args in
    models-hold (lists a.path_sizes.now a.path_losses.now a.path_weights.now) c.requires.fit refl refl refl

pub returns-in_err-entries : goal.returns-in_err-entries
returns-in_err-entries c =
    let a = c.args in
    let after = c.extend_checked.new in
    let refused = c.in_err-entries.field-0.0 in
    let fails = ne_eqb (number_of refused) 0 (number_some refused) in
    let p = err_from_is_err_and c.from_residual.result c.from_residual.ensures.1 in
    rw (p.1, p.2) (done (goal.at.returns-in_err-entries c).After-extend_checked (Err refused) c.in_err-entries.was _
    (λ i. stream_cut.left (sym fails i) (stream_buffers a.table.now (lists a.path_sizes.now a.path_losses.now a.path_weights.now))
    (stream_buffers after.table (lists after.path_sizes after.path_losses after.path_weights))))

pub write_models-requires : goal.write_models-requires
write_models-requires c =
    let a = c.args in
    let made = c.extend_checked.auto in
    let models = c.read.auto in
    models-hold (lists a.path_sizes.now a.path_losses.now a.path_weights.now) c.requires.fit
    (made.path_sizes ∙ models.size_items) (made.path_losses ∙ models.loss_items) (made.path_weights ∙ models.weight_items)

pub returns : goal.returns
returns c =
    let written = c.write_models.ensures in
    done (goal.at.returns c).After-extend_checked (Ok c.in_ok-entries.entries) c.in_ok-entries.was _
    (λ i. stream_buffers c.extend_checked.new.table (lists (written.sizes_are i) (written.losses_are i) (written.weights_are i)))
