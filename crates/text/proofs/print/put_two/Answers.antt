-- `text::print::put_two` puts its three pieces one after the other; each fits because their lengths add up to the text's.
use native.Mathlib.Omega.{arith}
use Rattle.text.specs.Text.{bytes, two_text}
use Rattle.text.proofs.Prints.{put_then}
use Rattle.text.proofs.Texts.{two-length}
use Rattle.text.proofs.print.put_two.Goals as goal

pub put_number-first-requires : goal.put_number-first-requires
put_number-first-requires c =
    let start = c in
    omega (arith, two-length start.args.a start.args.b)

pub put_byte-blank-requires : goal.put_byte-blank-requires
put_byte-blank-requires c =
    let first = c in
    let start = first in
    omega (arith, two-length start.args.a start.args.b)

pub put_number-requires : goal.put_number-requires
put_number-requires c =
    let blank = c in
    let first = blank in
    let start = first in
    omega (arith, two-length start.args.a start.args.b)

pub returns : goal.returns
unfolding bytes two_text
returns c =
    let blank = c in
    let first = blank in
    put_then (put_then first.put_number-first.ensures blank.put_byte-blank.ensures) c.put_number.ensures
