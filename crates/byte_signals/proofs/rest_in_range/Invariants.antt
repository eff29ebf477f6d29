-- `byte_signals::rest_in_range` meets its contract. The loop's invariant: the weights from place i on are in range just where those after
-- the first 32 are.
use mathlib.Core.Path.{◌≡◌}
use lib.ListN.{drop}
use Rattle.layout.specs.Items.{items_of}
use Rattle.least.specs.Segmentation.{max_segments}
use Rattle.weights.specs.Weights.{all_in_range}
use Rattle.byte_signals.proofs.rest_in_range.Given as goal

abbrev pub invariant-loop-i : goal.invariant-loop-i
invariant-loop-i l = all_in_range (drop l.i (items_of 2 l.weights)) ≡ all_in_range (drop max_segments (items_of 2 l.weights))
