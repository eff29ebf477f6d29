-- `text::notes::skip_form` and `text::notes::skip_items` call each other. The measure is twice the depth that is left, and one more
-- for the items. The loop's invariant: the text closes its brackets from i on if it does from the start on.
use Rattle.std.proofs.Common.{◌≡◌, suc, ◌+◌, ◌-◌, ◌≤◌, length, drop}
use Rattle.text.specs.Notes.{closes}
use Rattle.text.proofs.notes.+skip_form_skip_items.Given as goal

abbrev pub decreases-skip_form : goal.decreases-skip_form
decreases-skip_form l = l.depth + l.depth

abbrev pub decreases-skip_items : goal.decreases-skip_items
decreases-skip_items l = l.depth + l.depth + 1

abbrev pub invariant-skip_items-loop-i : goal.invariant-skip_items-loop-i
invariant-skip_items-loop-i l =
    (l.at ≤ l.i) × (l.i ≤ length l.text) × (closes (suc (7 - l.depth)) (drop l.at l.text) ≡ closes (suc (7 - l.depth)) (drop l.i l.text))

abbrev pub decreases-skip_items-loop-i : goal.decreases-skip_items-loop-i
decreases-skip_items-loop-i l = length l.text - l.i
