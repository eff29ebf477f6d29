-- There are as many models as there are whole items of each string.
use native.Mathlib.Omega.{arith}
use Rattle.std.proofs.lemmas.Grind.{common_steps}
use Rattle.layout.proofs.ItemLists.{length-items}
use Rattle.coding.proofs.ByteColumnsModels.has_room.Goals as goal

pub returns-then-n-self-2 : goal.returns-then-n-self-2
returns-then-n-self-2 c = simp length-items (grind (arith, common_steps))

pub returns-else-n-self-2 : goal.returns-else-n-self-2
returns-else-n-self-2 c = simp length-items (grind (arith, common_steps))
