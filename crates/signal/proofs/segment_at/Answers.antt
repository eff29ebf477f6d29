-- `signal::segment_at` meets its contract: the entry that is selected is the model of a size that occurs, so that the table has its
-- starts, and these its levels.
use mathlib.Core.Path.{ap, sym, ◌∙◌}
use Rattle.std.specs.Prelude.{Ok}
use Rattle.path.specs.Model.{lists}
use Rattle.select.specs.Inner.{selected_as}
use Rattle.signal.specs.Signal.{size_count, least_losses}
use Rattle.signal.specs.SignalPath.{PathBuffers, path_buffers}
use Rattle.signal.proofs.Selections.{Entry, may-take, entry-from, may-trace, may-level, segmented}
use Rattle.signal.proofs.segment_at.Goals as goal
use Rattle.signal.proofs.segment_at.Goals.{After-unwrap-found}

abbrev buffers : After-unwrap-found → PathBuffers
buffers c = path_buffers (lists c.args.path.sizes.now c.args.path.losses.now c.args.path.weights.now) c.args.scratch.now

pub unwrap-found-requires : goal.unwrap-found-requires
unwrap-found-requires c =
    let a = c.args in
    let s = a.signal in
    may-take s.samples.now s.max_segments s.min_segment_len (path_buffers (lists a.path.sizes.now a.path.losses.now a.path.weights.now) a.scratch.now) a.entries a.penalty.p a.penalty.q a.starts.now a.levels.now s.in_range a.penalty.in_range c.requires c.select_from.result c.select_from.ensures

-- The selected entry is that of a size that occurs.
found : (c : After-unwrap-found) → let a = c.args in let s = a.signal in Entry c.requires.weights (least_losses s.samples.now s.min_segment_len) (size_count s.samples.now s.max_segments s.min_segment_len) a.penalty.p a.penalty.q (selected_as (Ok c.unwrap-found.result))
found c =
    let a = c.args in
    let s = a.signal in
    entry-from s.samples.now s.max_segments s.min_segment_len (buffers c) a.entries a.penalty.p a.penalty.q a.starts.now a.levels.now s.in_range a.penalty.in_range c.requires c.unwrap-found.result (ap selected_as (sym c.unwrap-found.ensures) ∙ c.select_from.ensures)

pub trace_back-requires : goal.trace_back-requires
trace_back-requires c =
    let f = (goal.at.trace_back-requires c).After-unwrap-found in
    let a = c.args in
    let s = a.signal in
    may-trace s.samples.now s.max_segments s.min_segment_len (buffers f) a.entries a.penalty.p a.penalty.q a.starts.now a.levels.now s.in_range a.penalty.in_range c.requires c.unwrap-found.result (found f)

pub put_levels-requires : goal.put_levels-requires
put_levels-requires c =
    let f = (goal.at.put_levels-requires c).After-unwrap-found in
    let a = c.args in
    let s = a.signal in
    may-level s.samples.now s.max_segments s.min_segment_len (buffers f) a.entries a.penalty.p a.penalty.q a.starts.now a.levels.now s.in_range a.penalty.in_range c.requires c.unwrap-found.result (found f) _ c.trace_back.ensures

pub returns : goal.returns
returns c =
    let f = (goal.at.returns c).After-unwrap-found in
    let a = c.args in
    let s = a.signal in
    segmented s.samples.now s.max_segments s.min_segment_len (buffers f) a.entries a.penalty.p a.penalty.q a.starts.now a.levels.now s.in_range a.penalty.in_range c.requires c.unwrap-found.result (found f) _ c.trace_back.ensures _ c.put_levels.ensures
