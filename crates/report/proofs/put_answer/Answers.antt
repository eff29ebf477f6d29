-- `report::put_answer` tests the penalty, and puts its line or a refusal.
use Rattle.std.proofs.Common.{ap, length, arith}
use Rattle.text.proofs.Prints.{put_as}
use Rattle.report.specs.Report.{report_path}
use Rattle.report.proofs.Lengths.{refusal-few}
use Rattle.report.proofs.Answers.{answer-refused, answer_line}
use Rattle.report.proofs.put_answer.Goals as goal

pub put_refusal-requires : goal.put_refusal-requires
put_refusal-requires c = omega (arith, refusal-few 4 (omega arith), c.requires)

pub returns-in-Some : goal.returns-in-Some
returns-in-Some c =
    let s = c.args.solved in
    let xs = s.signal.samples.now in
    let is = c.in-Some.ensures in
    rw (answer_line xs (report_path xs s.signal.max_segments s.weights.now) c.args.p c.args.q is.0) at (rw (is.1, is.2) at c.put_line.ensures)

pub returns-in-None : goal.returns-in-None
returns-in-None c =
    let s = c.args.solved in
    let xs = s.signal.samples.now in
    let e = answer-refused xs (report_path xs s.signal.max_segments s.weights.now) c.args.p c.args.q c.in-None.ensures in
    record { put = put_as e c.put_refusal.ensures; short = omega (arith, refusal-few 4 (omega arith), ap length e) }
