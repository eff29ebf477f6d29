-- `report::put_report` puts what is found, or a refusal.
use Rattle.std.proofs.Common.{sym, arith}
use Rattle.path.specs.Numbers.{number_of}
use Rattle.text.proofs.Prints.{put_as}
use Rattle.report.proofs.Lengths.{refusal-few}
use Rattle.report.proofs.Turns.{number-small}
use Rattle.report.proofs.put_report.Goals as goal

pub put_refusal-requires : goal.put_refusal-requires
put_refusal-requires c =
    let r = c.in-Err.refusal in
    rw c.in-Err.ensures.same (omega (arith, refusal-few (number_of r) (number-small r), c.requires.1))

pub returns-in-Err : goal.returns-in-Err
returns-in-Err c = put_as (sym c.in-Err.ensures.text) (rw c.in-Err.ensures.same at c.put_refusal.ensures)
