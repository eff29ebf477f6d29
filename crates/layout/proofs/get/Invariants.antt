-- `layout::get` meets its contract: the bytes from i on are read, as an item of width - i bytes.
use mathlib.Core.Path.{◌≡◌}
use mathlib.Core.List.{List}
use Prim.Native.Nat.{ℕ, ◌+◌, ◌-◌, ◌^◌, ◌≤◌, ◌<◌}
use Rattle.layout.specs.Item.{item}
use Rattle.layout.proofs.get.Given as goal

pub record Read (w : List ℕ) (at k i r : ℕ) : Type 0 where
  pub high : i ≤ k
  pub is : r ≡ item (k - i) w (at + i)
  pub low : r < 256 ^ (k - i)

abbrev pub invariant-loop-i : goal.invariant-loop-i
invariant-loop-i l = Read l.bytes l.at l.width l.i l.value
