-- `text::print::put_level` writes the level's size, after a minus where the level is below zero.
use Rattle.std.proofs.Common.{ap, ◌∙◌, length, arith}
use Rattle.text.proofs.Prints.{put_then, put_as}
use Rattle.text.proofs.Texts.{level-below, level-above}
use Rattle.text.proofs.print.put_level.Goals as goal

pub put_byte-sign-requires : goal.put_byte-sign-requires
put_byte-sign-requires c =
    let size = c.from-size.ensures ∙ c.unsigned_abs.ensures.value in
    omega (arith, ap length (level-below c.args.level c.from-size.result c.ranges.level size c.if-level-lt0.true))

pub put_number-requires : goal.put_number-requires
put_number-requires c =
    let size = c.from-size.ensures ∙ c.unsigned_abs.ensures.value in
    omega (arith, ap length (level-below c.args.level c.from-size.result c.ranges.level size c.if-level-lt0.true))

pub returns-then-level-lt0 : goal.returns-then-level-lt0
returns-then-level-lt0 c =
    let size = c.from-size.ensures ∙ c.unsigned_abs.ensures.value in
    put_as (level-below c.args.level c.from-size.result c.ranges.level size c.if-level-lt0.true) (put_then c.put_byte-sign.ensures c.put_number.ensures)

pub put_number-requires-2 : goal.put_number-requires-2
put_number-requires-2 c =
    let size = c.from-size.ensures ∙ c.unsigned_abs.ensures.value in
    omega (arith, ap length (level-above c.args.level c.from-size.result c.ranges.level size c.if-level-lt0.false))

pub returns : goal.returns
returns c =
    let size = c.from-size.ensures ∙ c.unsigned_abs.ensures.value in
    put_as (level-above c.args.level c.from-size.result c.ranges.level size c.if-level-lt0.false) c.put_number-2.ensures
