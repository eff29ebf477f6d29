-- `report::lines::put_refusal` puts its three pieces one after the other; each fits because their lengths add up to the line's.
use Rattle.std.proofs.Common.{ap, arith, length}
use Rattle.path.specs.Numbers.{number_of}
use Rattle.text.specs.Text.{bytes, digits}
use Rattle.text.proofs.Prints.{put_then, put_as}
use Rattle.report.specs.Lines.{refusal_line}
use Rattle.report.proofs.Pieces.{refusal-length}
use Rattle.report.proofs.lines.put_refusal.Goals as goal

pub put_text-word-requires : goal.put_text-word-requires
put_text-word-requires c = omega (arith, refusal-length (number_of c.args.refusal))

pub put_number-number-requires : goal.put_number-number-requires
put_number-number-requires c = rw c.into.ensures (omega (arith, refusal-length (number_of c.args.refusal)))

pub put_text-requires : goal.put_text-requires
put_text-requires c = omega (arith, refusal-length (number_of c.args.refusal), ap (λ n. length (digits n)) c.into.ensures)

pub returns : goal.returns
unfolding bytes refusal_line
returns c = let number = put_as (ap digits c.into.ensures) c.put_number-number.ensures in put_then (put_then c.put_text-word.ensures number) c.put_text.ensures
