-- `report::lines::put_head` puts its seven pieces one after the other; each fits because their lengths add up to the text's.
use native.Mathlib.Omega.{arith}
use Rattle.text.specs.Text.{bytes}
use Rattle.text.proofs.Prints.{put_then}
use Rattle.report.specs.Lines.{head_text}
use Rattle.report.proofs.Pieces.{head-length}
use Rattle.report.proofs.lines.put_head.Goals as goal

pub put_text-word-requires : goal.put_text-word-requires
put_text-word-requires c =
    let a = c.args in
    omega (arith, head-length a.penalty.p a.penalty.q a.found.size a.found.loss)

pub put_two-penalty-requires : goal.put_two-penalty-requires
put_two-penalty-requires c =
    let a = c.args in
    omega (arith, head-length a.penalty.p a.penalty.q a.found.size a.found.loss)

pub put_text-runs-requires : goal.put_text-runs-requires
put_text-runs-requires c =
    let a = c.args in
    omega (arith, head-length a.penalty.p a.penalty.q a.found.size a.found.loss)

pub put_number-count-requires : goal.put_number-count-requires
put_number-count-requires c =
    let a = c.args in
    omega (arith, head-length a.penalty.p a.penalty.q a.found.size a.found.loss)

pub put_text-second-requires : goal.put_text-second-requires
put_text-second-requires c =
    let a = c.args in
    omega (arith, head-length a.penalty.p a.penalty.q a.found.size a.found.loss)

pub put_number-value-requires : goal.put_number-value-requires
put_number-value-requires c =
    let a = c.args in
    omega (arith, head-length a.penalty.p a.penalty.q a.found.size a.found.loss)

pub put_byte-requires : goal.put_byte-requires
put_byte-requires c =
    let a = c.args in
    omega (arith, head-length a.penalty.p a.penalty.q a.found.size a.found.loss)

pub returns : goal.returns
unfolding bytes head_text
returns c =
    let front = put_then (put_then c.put_text-word.ensures c.put_two-penalty.ensures) c.put_text-runs.ensures in
    let middle = put_then (put_then front c.put_number-count.ensures) c.put_text-second.ensures in
    put_then (put_then middle c.put_number-value.ensures) c.put_byte.ensures
