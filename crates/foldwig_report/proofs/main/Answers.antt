-- The report's length is within the output buffer.
use Rattle.std.proofs.Common.{sym}
use Rattle.std.proofs.Math.Seq.{length-take-le}
use Rattle.report.proofs.Wholes.{length-within}
use Rattle.foldwig_report.proofs.main.Goals as goal

pub slice_bounds-output-end : goal.slice_bounds-output-end
slice_bounds-output-end c =
    length-within _ _ c.report-reported.new.output c.report-reported.result.refusal c.report-reported.result.length
    c.report-reported.ensures

pub slice_bounds-write_all-end : goal.slice_bounds-write_all-end
slice_bounds-write_all-end c =
    sym
    (length-take-le c.report-reported.result.length c.report-reported.new.output
    (length-within _ _ c.report-reported.new.output c.report-reported.result.refusal c.report-reported.result.length
    c.report-reported.ensures))
