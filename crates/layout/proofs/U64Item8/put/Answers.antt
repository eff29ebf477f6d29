-- A number of eight bytes is put as its item: the library's bytes are the definition's at the width 8.
use mathlib.Core.Path.{◌∙◌}
use native.Mathlib.Nat.{div-div-eq-div-mul}
use native.Mathlib.Omega.{arith}
use Rattle.layout.specs.Items.{item_bytes}
use Rattle.layout.proofs.ItemLists.{put-part}
use Rattle.layout.proofs.U64Item8.put.Goals as goal

pub returns : goal.returns
unfolding item_bytes
returns c =
    let a = c.args in
    put-part 8 a.bytes.now a.at _ a.self c.copy_from_slice.new.self (omega arith) c.requires (c.copy_from_slice.ensures.after ∙ c.to_le_bytes.ensures ∙ simp div-div-eq-div-mul)
