-- A number is put as an item of two bytes: its two low bytes are.
use mathlib.Core.Path.{◌≡◌, ◌∙◌}
use Prim.Native.Nat.{suc, ◌/◌, ◌%◌}
use native.Mathlib.Omega.{arith}
use lib.ListN.{set}
use Rattle.layout.specs.Item.{set_item}
use Rattle.layout.proofs.U64Item2.put.Goals as goal

pub returns : goal.returns
unfolding set_item
returns c =
    let a = c.args in
    let v = a.self in
    let low : v % 65536 % 256 ≡ v % 256 = omega arith in
    let high : v % 65536 / 256 % 256 ≡ v / 256 % 256 = omega arith in
    c.put.ensures ∙ (λ i. set (set a.bytes.now a.at (low i)) (suc a.at) (high i))
