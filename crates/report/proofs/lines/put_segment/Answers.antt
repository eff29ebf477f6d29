-- `report::lines::put_segment` puts its five pieces one after the other; each fits because their lengths add up to the text's.
-- The level is itself when it is read back from its bits.
use native.Mathlib.Omega.{arith}
use mir.Facts.{to_z-of_z}
use Rattle.text.specs.Text.{bytes}
use Rattle.text.proofs.Prints.{put_then}
use Rattle.report.specs.Lines.{segment_text}
use Rattle.report.proofs.Pieces.{segment-length}
use Rattle.report.proofs.lines.put_segment.Goals as goal

pub put_text-word-requires : goal.put_text-word-requires
put_text-word-requires c =
    let a = c.args in
    omega (arith, segment-length a.first a.last a.level)

pub put_two-ends-requires : goal.put_two-ends-requires
put_two-ends-requires c =
    let a = c.args in
    omega (arith, segment-length a.first a.last a.level)

pub put_byte-blank-requires : goal.put_byte-blank-requires
put_byte-blank-requires c =
    let a = c.args in
    omega (arith, segment-length a.first a.last a.level)

pub put_level-value-requires : goal.put_level-value-requires
put_level-value-requires c =
    let a = c.args in
    rw (to_z-of_z c.ranges.level) (omega (arith, segment-length a.first a.last a.level))

pub put_byte-requires : goal.put_byte-requires
put_byte-requires c =
    let a = c.args in
    let level-end = rw (to_z-of_z c.ranges.level) at c.put_level-value.ensures.end_is in
    omega (arith, segment-length a.first a.last a.level)

pub returns : goal.returns
unfolding bytes segment_text
returns c =
    let front = put_then (put_then c.put_text-word.ensures c.put_two-ends.ensures) c.put_byte-blank.ensures in
    let level = rw (to_z-of_z c.ranges.level) at c.put_level-value.ensures in
    put_then (put_then front level) c.put_byte.ensures
