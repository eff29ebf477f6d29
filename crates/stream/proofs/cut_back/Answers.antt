-- `stream::cut_back` meets its contract. The invariant: the segments written so far, behind the segmentation of the first `to` samples
-- into `left` segments, are those of the whole signal.
use mathlib.Core.Path.{◌∙◌}
use native.Mathlib.Omega.{arith}
use lib.ListN.{length}
use mir.Syntax.{w16}
use mir.Facts.{to_z-of_z}
use Rattle.stream.specs.SplitFrom.{segment_buffers}
use Rattle.stream.proofs.Cuts.{cut-start, cut_step, cut-end}
use Rattle.stream.proofs.cut_back.Goals as goal

pub loop-left-init : goal.loop-left-init
loop-left-init c = let a = c.args in cut-start a.samples.now a.table.bytes.now (length a.starts.now) (segment_buffers a.starts.now a.levels.now) c.requires

pub last_segment-last-requires : goal.last_segment-last-requires
last_segment-last-requires c =
    let p = c.requires in
    let i = c.loop-left.invariant in
    record { few = omega (arith, i.high, p.few); some = omega (arith, i.long); within = i.short; short = p.short; low = λ k j few l u. p.low k j few l (omega (arith, i.short)) }

pub loop-left-preserved : goal.loop-left-preserved
loop-left-preserved c =
    let a = c.args in
    let l = c.loop-left in
    cut_step a.samples.now a.table.bytes.now (length a.starts.now) (segment_buffers a.starts.now a.levels.now) c.requires l.starts l.levels l.left l.to l.loss l.invariant (omega arith) _ _ c.last_segment-last.ensures _
    (to_z-of_z {w = w16} (record { sfits = c.segment_level.type_inv }) ∙ c.segment_level.ensures)

pub returns : goal.returns
returns c =
    let a = c.args in
    let l = c.loop-left in
    cut-end a.samples.now a.table.bytes.now (length a.starts.now) (segment_buffers a.starts.now a.levels.now) c.requires l.starts l.levels l.left l.to l.loss l.invariant (omega arith)
