-- A number of two bytes is read as its item: the library's sum of the bytes is the definition's at the width 2.
use mathlib.Core.Path.{◌∙◌}
use native.Mathlib.Omega.{arith}
use native.Mathlib.Numerals.{add-one}
use Rattle.layout.specs.Item.{item}
use Rattle.layout.proofs.U16Item2.get.Goals as goal

pub returns : goal.returns
unfolding item
returns c = c.from_le_bytes.ensures ∙ rw add-one (omega arith)
