-- `layout::put` meets its contract: what is left to put, from the place i on, makes the whole put.
use mathlib.Core.Path.{◌≡◌}
use mathlib.Core.List.{List}
use Prim.Native.Nat.{ℕ, ◌+◌, ◌-◌, ◌≤◌}
use lib.ListN.{length}
use Rattle.layout.specs.Item.{set_item}
use Rattle.layout.proofs.put.Given as goal

pub record Written (w₀ w : List ℕ) (at k v i x : ℕ) : Type 0 where
  pub high : i ≤ k
  pub len : length w ≡ length w₀
  pub is : set_item (k - i) w (at + i) x ≡ set_item k w₀ at v

abbrev pub invariant-loop-i : goal.invariant-loop-i
invariant-loop-i l = Written l.initial.bytes l.bytes l.at l.width l.value l.i l.rest
