-- A number with a sign is read from its bits.
use mathlib.Core.Path.{ap, ◌∙◌}
use mir.Syntax.{w16}
use mir.Val.{to_z}
use mir.ValLaws.{to_z-of_z}
use Rattle.layout.proofs.Signs.{signed_is}
use Rattle.layout.proofs.I16Item2.get.Goals as goal

pub returns : goal.returns
returns c =
    let r = c.cast_signed in
    to_z-of_z w16 r.result (record { sfits = r.type_inv }) ∙ r.ensures ∙ ap (to_z w16) c.get.ensures ∙ signed_is _
