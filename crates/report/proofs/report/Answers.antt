-- `report::report` tests the two lengths, and puts a refusal or the report.
use Rattle.std.proofs.Common.{arith}
use Rattle.text.proofs.Prints.{put_as}
use Rattle.report.proofs.Lengths.{refusal-few}
use Rattle.report.proofs.Wholes.{text-long, text-short, reported-not, reported}
use Rattle.report.proofs.report.Goals as goal

pub returns-then-output-lt-OUTPUT_LEN : goal.returns-then-output-lt-OUTPUT_LEN
returns-then-output-lt-OUTPUT_LEN c = rw c.into.ensures (reported-not c.args.input.now c.args.output.now c.if-output-lt-OUTPUT_LEN.true)

pub put_refusal-length-requires : goal.put_refusal-length-requires
put_refusal-length-requires c = omega (arith, refusal-few 11 (omega arith), c.if-output-lt-OUTPUT_LEN.false)

pub returns-then-input-gt-INPUT_LEN : goal.returns-then-input-gt-INPUT_LEN
returns-then-input-gt-INPUT_LEN c =
    let i = c.args.input.now in
    let put = put_as (text-long i c.if-input-gt-INPUT_LEN.true) c.put_refusal-length.ensures in
    reported i c.args.output.now _ _ c.if-output-lt-OUTPUT_LEN.false put

pub put_report-length-requires : goal.put_report-length-requires
put_report-length-requires c = (c.if-input-gt-INPUT_LEN.false, c.if-output-lt-OUTPUT_LEN.false)

pub returns : goal.returns
returns c =
    let i = c.args.input.now in
    let put = put_as (text-short i c.if-input-gt-INPUT_LEN.false) c.put_report-length.ensures in
    reported i c.args.output.now _ _ c.if-output-lt-OUTPUT_LEN.false put
