-- `text::print::put_number` calls itself with a tenth of the number, and then puts the last digit.
use Rattle.std.proofs.Common.{sym, arith}
use Rattle.text.proofs.Digits.{digits-one, digits_more, digits-length}
use Rattle.text.proofs.Prints.{put_then, put_as}
use Rattle.text.proofs.print.+put_number.Goals as goal

pub put_byte-requires : goal.put_byte-requires
put_byte-requires t c = omega (arith, simp (digits-one c.args.n c.if-n-lt10.true) at c.requires)

pub returns-then-n-lt10 : goal.returns-then-n-lt10
returns-then-n-lt10 t c = put_as (sym (digits-one c.args.n c.if-n-lt10.true)) c.put_byte.ensures

pub put_number-last-requires : goal.put_number-last-requires
put_number-last-requires t c = (omega arith, omega (arith, digits-length c.args.n c.if-n-lt10.false))

pub put_byte-requires-2 : goal.put_byte-requires-2
put_byte-requires-2 t c = omega (arith, digits-length c.args.n c.if-n-lt10.false)

pub returns : goal.returns
returns t c = put_as (sym (digits_more c.args.n c.if-n-lt10.false)) (put_then c.put_number-last.ensures c.put_byte-2.ensures)
