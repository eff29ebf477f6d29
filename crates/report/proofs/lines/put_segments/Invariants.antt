-- `report::lines::put_segments` puts segment after segment. The loop's invariant: the text of the first i segments lies over the
-- output, and has at most 25 bytes for each.
use mathlib.Core.Path.{◌≡◌}
use Prim.Native.Nat.{◌*◌, ◌≤◌}
use lib.ListN.{length}
use Rattle.text.specs.Inner.{Put}
use Rattle.report.specs.Inner.{items_text}
use Rattle.report.proofs.lines.put_segments.Given as goal

abbrev pub invariant-loop-i : goal.invariant-loop-i
invariant-loop-i l =
    (length l.output ≡ length l.initial.output)
    × Put (items_text l.starts l.levels (length l.starts) l.samples_len l.i) l.at l.initial.output l.output l.place
    × (length (items_text l.starts l.levels (length l.starts) l.samples_len l.i) ≤ 25 * l.i)
