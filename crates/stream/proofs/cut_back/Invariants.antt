-- `stream::cut_back` meets its contract. The invariant: the segments written so far, behind the segmentation of the first `to` samples
-- into `left` segments, are those of the whole signal.
use lib.ListN.{length}
use Rattle.stream.specs.SplitFrom.{segment_buffers}
use Rattle.stream.proofs.Cuts.{CutTo}
use Rattle.stream.proofs.cut_back.Given as goal

abbrev pub invariant-loop-left : goal.invariant-loop-left
invariant-loop-left l = CutTo l.samples l.table.bytes.now (length l.initial.starts) (segment_buffers l.initial.starts l.initial.levels) (segment_buffers l.starts l.levels) l.left l.to l.loss
