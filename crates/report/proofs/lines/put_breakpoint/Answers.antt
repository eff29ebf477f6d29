-- `report::lines::put_breakpoint` puts its three pieces one after the other; each fits because their lengths add up to the text's.
use native.Mathlib.Omega.{arith}
use Rattle.text.specs.Text.{bytes}
use Rattle.text.proofs.Prints.{put_then}
use Rattle.report.specs.Lines.{breakpoint_text}
use Rattle.report.proofs.Pieces.{breakpoint-length}
use Rattle.report.proofs.lines.put_breakpoint.Goals as goal

pub put_text-word-requires : goal.put_text-word-requires
put_text-word-requires c = omega (arith, breakpoint-length c.args.numerator c.args.denominator)

pub put_two-number-requires : goal.put_two-number-requires
put_two-number-requires c = omega (arith, breakpoint-length c.args.numerator c.args.denominator)

pub put_byte-requires : goal.put_byte-requires
put_byte-requires c = omega (arith, breakpoint-length c.args.numerator c.args.denominator)

pub returns : goal.returns
unfolding bytes breakpoint_text
returns c = put_then (put_then c.put_text-word.ensures c.put_two-number.ensures) c.put_byte.ensures
