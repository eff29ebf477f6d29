-- `stream::split_from_checked` meets its contract: refused, or the segmentation by the table into as many segments as the last column gives.
use mathlib.Core.Path.{sym}
use lib.ListN.{length}
use lib.Seq.{length-take-le}
use Rattle.std.proofs.lemmas.Result.{err_from_is_err_and}
use Rattle.stream.specs.SplitFrom.{segment_buffers}
use Rattle.stream.specs.Inner.{CutFrom, SegmentsAre}
use Rattle.stream.proofs.Cases.{splittable, split-from-refused}
use Rattle.stream.proofs.Cuts.{cut-first, cut-whole, may-select, may-cut, split_done}
use Rattle.stream.proofs.split_from_checked.Goals as goal
use Rattle.stream.proofs.split_from_checked.Goals.{After-segments_at-segments}

pub returns-in_err-penalty : goal.returns-in_err-penalty
returns-in_err-penalty c =
    let a = c.args in
    let p = err_from_is_err_and c.from_residual.result c.from_residual.ensures.1 in
    rw (p.1, p.2) (split-from-refused a.samples.now a.max_segments a.p a.q a.table.now (segment_buffers a.starts.now a.levels.now) _ c.in_err-penalty.ensures.refusal)

pub invariant_of-table : goal.invariant_of-table
invariant_of-table c =
    let a = c.args in
    record { whole = (splittable (length a.samples.now) a.max_segments a.p a.q a.table.now (length a.starts.now) (length a.levels.now) (sym c.in_ok-penalty.ensures.refusal)).long }

pub segments_at-segments-requires : goal.segments_at-segments-requires
segments_at-segments-requires c =
    let a = c.args in
    may-select a.samples.now a.max_segments a.p a.q a.table.now (segment_buffers a.starts.now a.levels.now) (sym c.in_ok-penalty.ensures.refusal) _ c.min-count.ensures

-- As many segments as the last column gives are in range.
counted : (c : After-segments_at-segments) → SegmentsAre c.args.table.now (length c.args.samples.now) c.min-count.result c.args.p c.args.q c.segments_at-segments.result
counted c = rw (c.in_ok-penalty.ensures.penalty.0, c.in_ok-penalty.ensures.penalty.1) at c.segments_at-segments.ensures

-- So they may be written.
may : (c : After-segments_at-segments) → CutFrom c.args.samples.now c.args.table.now c.segments_at-segments.result (segment_buffers c.args.starts.now c.args.levels.now)
may c =
    let a = c.args in
    may-cut a.samples.now a.max_segments a.p a.q a.table.now (segment_buffers a.starts.now a.levels.now) (sym c.in_ok-penalty.ensures.refusal) _ c.min-count.ensures _ (counted c)

pub slice_bounds-starts-end : goal.slice_bounds-starts-end
slice_bounds-starts-end c = (may (goal.at.slice_bounds-starts-end c).After-segments_at-segments).len_starts

pub slice_bounds-starts-end-2 : goal.slice_bounds-starts-end-2
slice_bounds-starts-end-2 c = sym (length-take-le _ c.args.starts.now (may (goal.at.slice_bounds-starts-end-2 c).After-segments_at-segments).len_starts)

pub slice_bounds-levels-end : goal.slice_bounds-levels-end
slice_bounds-levels-end c = (may (goal.at.slice_bounds-levels-end c).After-segments_at-segments).len_levels

pub slice_bounds-levels-end-2 : goal.slice_bounds-levels-end-2
slice_bounds-levels-end-2 c = sym (length-take-le _ c.args.levels.now (may (goal.at.slice_bounds-levels-end-2 c).After-segments_at-segments).len_levels)

pub cut_back-loss-requires : goal.cut_back-loss-requires
cut_back-loss-requires c =
    let a = c.args in
    let from = may (goal.at.cut_back-loss-requires c).After-segments_at-segments in
    cut-first a.samples.now a.table.now _ (segment_buffers a.starts.now a.levels.now) from.len_starts from.len_levels from

pub returns : goal.returns
returns c =
    let a = c.args in
    let lent = segment_buffers a.starts.now a.levels.now in
    let before = (goal.at.returns c).After-segments_at-segments in
    let from = may before in
    split_done a.samples.now a.max_segments a.p a.q a.table.now lent (sym c.in_ok-penalty.ensures.refusal) _ c.min-count.ensures _ (counted before) (segment_buffers _ _) _
    (cut-whole a.samples.now a.table.now _ lent from.len_starts from.len_levels _ _ _ c.cut_back-loss.ensures)
