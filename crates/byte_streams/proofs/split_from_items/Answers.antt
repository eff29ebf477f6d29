-- `byte_streams::split_from_items` meets its contract: three lists are read, the split is made on them, and where it is accepted two are
-- written back.
use mathlib.Core.Path.{◌≡◌, ap, sym, ◌∙◌}
use Prim.Native.Nat.{ℕ}
use lib.Dec.{eqb}
use borrow.Author.Tests.{ne_eqb}
use Rattle.std.proofs.lemmas.Result.{err_from_is_err_and}
use Rattle.std.proofs.Common.{Result, Ok, Err}
use Rattle.coding.specs.Coding.{outcome}
use Rattle.coding.proofs.Strings.{bytes-held}
use Rattle.coding.proofs.Calls.{returned}
use Rattle.path.specs.Numbers.{number_of}
use Rattle.path.specs.declared.refusal.Refusal.{Refusal}
use Rattle.path.proofs.Numbers.{number_some}
use Rattle.stream.specs.SplitFrom.{segment_buffers}
use Rattle.stream.specs.Inner.{split_from_result}
use Rattle.byte_signals.proofs.SignalPaths.{samples_cut}
use Rattle.byte_streams.specs.Streams.{SegmentStrings, segment_strings, split_from_answers, split_from_told, split_from_call, split_from_bytes_of}
use Rattle.byte_streams.proofs.StreamCuts.{segments_cut, split-from-cut}
use Rattle.byte_streams.proofs.split_from_items.Goals as goal
use Rattle.byte_streams.proofs.split_from_items.Goals.{After-split_from_checked}

-- Strings that are left as the split on the lists answers are what is owed.
done : (c : After-split_from_checked) (o : Result (ℕ × ℕ) Refusal) → c.split_from_checked.result ≡ o → (final : SegmentStrings)
    → (let a = c.args in let n = c.split_from_checked.new in let b = segment_strings a.starts.now a.levels.now in
    final ≡ segments_cut.left (eqb (split_from_result o).refusal 0) b (segment_buffers n.starts n.levels)
    → outcome (split_from_result o) final ≡ split_from_bytes_of a.samples.now a.max_segments a.p a.q a.table.now b)
done c o was final e =
    let a = c.args in
    let made = c.split_from_checked in
    let after = made.new in
    let long = made.auto in
    let segments = c.read_segments in
    let lists = segment_buffers a.start_items.now a.level_items.now in
    let left = segment_buffers after.starts after.levels in
    let lent = segment_strings a.starts.now a.levels.now in
    let call = split_from_call a.max_segments a.p a.q a.table.now in
    returned samples_cut segments_cut split_from_answers call a.samples.now lent c.requires.whole
    (bytes-held a.starts.now c.slice_known-1.given, bytes-held a.levels.now c.slice_known-2-1.given)
    (split-from-cut a.max_segments a.p a.q a.table.now _ _) a.sample_items.now lists left (split_from_result o)
    (ap split_from_told (rw was at made.ensures)
    ∙ (λ i. call (c.read_items.ensures i) (segment_buffers (segments.ensures.starts_are i) (segments.ensures.levels_are i))))
    c.requires.samples_fit (c.requires.starts_fit, c.requires.levels_fit)
    (long.starts ∙ segments.auto.start_items ∙ c.requires.starts_fit, long.levels ∙ segments.auto.level_items ∙ c.requires.levels_fit)
    final e

pub returns-in_err-split : goal.returns-in_err-split
returns-in_err-split c =
    let a = c.args in
    let after = c.split_from_checked.new in
    let refused = c.in_err-split.field-0.0 in
    let fails = ne_eqb (number_of refused) 0 (number_some refused) in
    let p = err_from_is_err_and c.from_residual.result c.from_residual.ensures.1 in
    rw (p.1, p.2) (done (goal.at.returns-in_err-split c).After-split_from_checked (Err refused) c.in_err-split.was _
    (λ i. segments_cut.left (sym fails i) (segment_strings a.starts.now a.levels.now) (segment_buffers after.starts after.levels)))

pub returns : goal.returns
returns c =
    let written = c.write_segments.ensures in
    done (goal.at.returns c).After-split_from_checked (Ok c.in_ok-split.split) c.in_ok-split.was _
    (λ i. segment_strings (written.starts_are i) (written.levels_are i))
