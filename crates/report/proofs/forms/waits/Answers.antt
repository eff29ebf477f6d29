-- `report::forms::waits` tests for the two words in turn.
use Rattle.std.proofs.Common.{refl, sym, ◌∙◌, take}
use Rattle.text.specs.Text.{bytes}
use Rattle.text.proofs.Searches.{pointwise_flip}
use Rattle.report.specs.Forms.{opens_with}
use Rattle.report.proofs.forms.waits.Goals as goal

pub returns-then-starts_with : goal.returns-then-starts_with
unfolding bytes opens_with
returns-then-starts_with c =
    let l = c.args.line.now in
    let opens = sym (pointwise_flip (take 5 l) (bytes "(note")) ∙ sym c.starts_with.ensures.value ∙ c.if-starts_with.true in
    c.if-starts_with.true ∙ sym (rw opens refl)

pub returns-else-starts_with : goal.returns-else-starts_with
unfolding bytes opens_with
returns-else-starts_with c =
    let l = c.args.line.now in
    let no = sym (pointwise_flip (take 5 l) (bytes "(note")) ∙ sym c.starts_with.ensures.value ∙ c.if-starts_with.false in
    let other = pointwise_flip (take 8 l) (bytes "(weights") in
    c.starts_with-else-starts_with.ensures.value ∙ other ∙ sym (rw no refl)
