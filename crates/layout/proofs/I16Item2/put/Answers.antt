-- A number with a sign is put by its bits.
use mathlib.Core.Path.{ap, ◌∙◌}
use mir.Syntax.{w16}
use mir.Val.{of_z}
use mir.ValLaws.{to_z-of_z}
use Rattle.layout.specs.Item.{set_item}
use Rattle.layout.proofs.Signs.{unsigned_is}
use Rattle.layout.proofs.I16Item2.put.Goals as goal

pub returns : goal.returns
returns c =
    let a = c.args in
    let same = ap (of_z w16) (to_z-of_z w16 a.self c.ranges.self) in
    c.put.ensures ∙ ap (set_item 2 a.bytes.now a.at) (c.cast_unsigned.ensures ∙ same ∙ unsigned_is a.self)
