-- A number of eight bytes is read as its item: the library's sum of the bytes is the definition's at the width 8.
use mathlib.Core.Path.{◌≡◌, ap}
use mathlib.Core.List.{List}
use Prim.Native.Nat.{ℕ, suc, ◌+◌}
use native.Mathlib.Omega.{arith}
use lib.ListN.{get_or}
use Rattle.layout.specs.Item.{item}
use Rattle.layout.proofs.U64Item8.get.Goals as goal

byte : (b : List ℕ) (i j : ℕ) → i ≡ j → get_or b i 0 ≡ get_or b j 0
byte b i j e = ap (λ (n : ℕ). get_or b n 0) e

pub returns : goal.returns
unfolding item
returns c =
    let at = c.args.at in
    let b = c.args.bytes.now in
    let first = byte b (at + 1) (suc at) (omega arith) in
    let second = byte b (at + 2) (suc (suc at)) (omega arith) in
    let third = byte b (at + 3) (suc (suc (suc at))) (omega arith) in
    let fourth = byte b (at + 4) (suc (suc (suc (suc at)))) (omega arith) in
    let fifth = byte b (at + 5) (suc (suc (suc (suc (suc at))))) (omega arith) in
    let sixth = byte b (at + 6) (suc (suc (suc (suc (suc (suc at)))))) (omega arith) in
    let seventh = byte b (at + 7) (suc (suc (suc (suc (suc (suc (suc at))))))) (omega arith) in
    omega (arith, c.from_le_bytes.ensures)
