-- `text::notes::begins_note` looks for one of the two texts with which a note begins.
use Rattle.std.proofs.Common.{sym, ◌∙◌, refl}
use Rattle.text.specs.Text.{bytes}
use Rattle.text.proofs.Readings.{begins-two}
use Rattle.text.proofs.notes.begins_note.Goals as goal

pub returns-then-starts_with : goal.returns-then-starts_with
unfolding bytes
returns-then-starts_with c = c.if-starts_with.true ∙ sym (begins-two c.args.line.now ∙ rw (sym c.starts_with.ensures.value ∙ c.if-starts_with.true) refl)

pub returns-else-starts_with : goal.returns-else-starts_with
unfolding bytes
returns-else-starts_with c =
    c.starts_with-else-starts_with.ensures.value ∙ sym (begins-two c.args.line.now ∙ rw (sym c.starts_with.ensures.value ∙ c.if-starts_with.false) refl)
