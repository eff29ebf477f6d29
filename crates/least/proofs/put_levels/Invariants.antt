-- `least::put_levels` meets its contract. The invariant: the first `left` starts are those of the chosen segmentation of the first
-- `to` samples, and the levels written so far, behind that segmentation's, are those of the whole signal.
use mathlib.Core.Path.{◌≡◌}
use mathlib.Core.List.{List, ◌++◌}
use Prim.Native.Nat.{ℕ, ◌*◌, ◌≤◌}
use lib.IntN.{ℤ}
use lib.ListN.{length, take, drop}
use Rattle.least.specs.Segmentation.{starts_of, levels_of, least, chosen_of}
use Rattle.least.proofs.Chosen.{front}
use Rattle.least.proofs.put_levels.Given as goal

-- The last levels are written, `left` of them are still to come.
pub record Put (xs : List ℤ) (starts : List ℕ) (d k : ℕ) (levels₀ levels : List ℤ) (left to : ℕ) : Type 0 where
  pub high : left ≤ k
  pub long : left * d ≤ to
  pub short : to ≤ length xs
  pub given : take left starts ≡ starts_of (front xs (least xs d) d left to)
  pub is : levels_of (front xs (least xs d) d left to) ++ drop left levels ≡ levels_of (chosen_of xs d k) ++ drop k levels₀

abbrev pub invariant-loop-left : goal.invariant-loop-left
invariant-loop-left l = Put l.samples l.starts l.min_segment_len l.segments l.initial.levels l.levels l.left l.to
