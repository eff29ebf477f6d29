-- `text::notes::is_note` skips the form that the line begins with: the line is a note if that ends where the line does.
use mathlib.Core.Path.{refl, sym, ◌∙◌}
use native.Mathlib.Omega.{arith}
use Rattle.text.specs.Notes.{is_note}
use Rattle.text.proofs.Nests.{ends_there}
use Rattle.text.proofs.Readings.{begins-long}
use Rattle.text.proofs.notes.is_note.Goals as goal

pub skip_form-requires : goal.skip_form-requires
skip_form-requires c =
    let long = begins-long c.args.line.now (sym c.begins_note.ensures ∙ c.if-begins_note.true) in
    (omega arith, omega (arith, long))

pub returns-then-begins_note : goal.returns-then-begins_note
unfolding is_note
returns-then-begins_note c =
    let begun = sym c.begins_note.ensures ∙ c.if-begins_note.true in
    rw begun (c.eq.ensures ∙ sym (c.skip_form.ensures.means ∙ ends_there c.args.line.now c.skip_form.result c.skip_form.ensures.past))

pub returns-else-begins_note : goal.returns-else-begins_note
unfolding is_note
returns-else-begins_note c = rw (← c.begins_note.ensures, c.if-begins_note.false) refl
