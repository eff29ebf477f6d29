-- `report::put_answers` answers penalty after penalty. The loop's invariant: the penalties up to what is left are answered, and at most
-- 75 bytes are written for each byte of them.
use Rattle.std.proofs.Common.{◌≡◌, ◌+◌, ◌*◌, ◌≤◌, length}
use Rattle.report.specs.Inner.{answers_end}
use Rattle.report.proofs.Replies.{Answered}
use Rattle.report.proofs.put_answers.Given as goal

abbrev pub invariant-loop-p : goal.invariant-loop-p
invariant-loop-p l = record {
  room : l.place + 75 * length l.left ≤ answers_end;
  long : length l.output ≡ length l.initial.output;
  answered : Answered l.solved.signal.samples.now l.solved.signal.max_segments l.solved.weights.now l.input l.left l.at l.initial.output l.output l.place;
}

abbrev pub decreases-loop-p : goal.decreases-loop-p
decreases-loop-p l = length l.left
