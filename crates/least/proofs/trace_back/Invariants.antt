-- `least::trace_back` meets its contract. The invariant: the starts written so far, behind those of the chosen segmentation of the
-- first j samples into `left` segments, are those of the whole signal. A turn takes the last of these from the table.
use mathlib.Core.Path.{◌≡◌}
use mathlib.Core.List.{List, ◌++◌}
use Prim.Native.Nat.{ℕ, ◌*◌, ◌≤◌, ◌<◌}
use lib.IntN.{ℤ}
use lib.ListN.{length, drop}
use Rattle.least.specs.Segmentation.{starts_of, least, chosen_of}
use Rattle.least.proofs.Chosen.{front}
use Rattle.least.proofs.trace_back.Given as goal

-- The last starts are written, `left` of them are still to come.
pub record Traced (xs : List ℤ) (d k : ℕ) (starts₀ starts : List ℕ) (left j : ℕ) : Type 0 where
  pub low : 0 < left
  pub high : left ≤ k
  pub long : left ≤ j
  pub room : left * d ≤ j
  pub short : j ≤ length xs
  pub is : starts_of (front xs (least xs d) d left j) ++ drop left starts ≡ starts_of (chosen_of xs d k) ++ drop k starts₀

abbrev pub invariant-loop-left : goal.invariant-loop-left
invariant-loop-left l = Traced l.samples l.min_segment_len l.segments l.initial.starts l.starts l.left l.j
