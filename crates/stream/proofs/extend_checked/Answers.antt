-- `stream::extend_checked` meets its contract: refused, or extended by way of a copy of all samples.
use mathlib.Core.Path.{◌∙◌, sym}
use mir.Syntax.{w16}
use mir.Facts.{to_z-of_z}
use Rattle.std.proofs.lemmas.Result.{err_from_is_err_and}
use Rattle.path.specs.Model.{lists}
use Rattle.stream.specs.Extend.{stream_buffers}
use Rattle.stream.proofs.Cases.{extend-refused, extend-accepted}
use Rattle.stream.proofs.StaysDue.{may-extend}
use Rattle.stream.proofs.extend_checked.Goals as goal

pub returns-in_err-check_extend : goal.returns-in_err-check_extend
returns-in_err-check_extend c =
    let a = c.args in
    let p = err_from_is_err_and c.from_residual.result c.from_residual.ensures.1 in
    rw (p.1, p.2) (record { outcome = extend-refused a.samples.now a.sample a.max_segments (stream_buffers a.table.now (lists a.path_sizes.now a.path_losses.now a.path_weights.now)) _ c.in_err-check_extend.ensures; fit = tt })

pub extend_with-requires : goal.extend_with-requires
extend_with-requires c =
    let a = c.args in
    let e = to_z-of_z {w = w16} c.ranges.sample in
    rw e (may-extend a.samples.now a.sample a.max_segments (stream_buffers a.table.now (lists a.path_sizes.now a.path_losses.now a.path_weights.now)) (sym c.in_ok-check_extend.ensures))

pub returns : goal.returns
returns c =
    let a = c.args in
    let e = to_z-of_z {w = w16} c.ranges.sample in
    let done = rw e at c.extend_with.ensures in
    record { outcome = done.outcome ∙ extend-accepted a.samples.now a.sample a.max_segments (stream_buffers a.table.now (lists a.path_sizes.now a.path_losses.now a.path_weights.now)) (sym c.in_ok-check_extend.ensures); fit = done.fit }
