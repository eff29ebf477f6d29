-- `report::lines::put_weight` puts nothing, or the word and the number.
use mathlib.Core.Path.{sym, ap}
use native.Mathlib.Omega.{arith}
use lib.ListN.{length}
use Rattle.text.specs.Text.{bytes}
use Rattle.text.proofs.Prints.{put_then, put_as, put-nothing}
use Rattle.report.specs.Lines.{weight_text}
use Rattle.report.proofs.Pieces.{weight-length, weight-none, weight-some}
use Rattle.report.proofs.lines.put_weight.Goals as goal

pub returns-then-not-given : goal.returns-then-not-given
returns-then-not-given c =
    let a = c.args in
    let e = weight-none a.given a.weight (c.if-not-given.true) in
    put_as (sym e) (put-nothing a.output.now a.at (omega (arith, c.requires)))

pub put_text-word-requires : goal.put_text-word-requires
put_text-word-requires c =
    let a = c.args in
    let e = weight-some a.given a.weight (c.if-not-given.false) in
    omega (arith, ap length e, weight-length a.weight, c.requires)

pub put_number-requires : goal.put_number-requires
put_number-requires c =
    let a = c.args in
    let e = weight-some a.given a.weight (c.if-not-given.false) in
    let t = c.put_text-word in
    omega (arith, ap length e, weight-length a.weight, c.requires, t.ensures.end_is, t.auto)

pub returns : goal.returns
unfolding bytes weight_text
returns c =
    let a = c.args in
    let e = weight-some a.given a.weight (c.if-not-given.false) in
    put_as (sym e) (put_then c.put_text-word.ensures c.put_number.ensures)
