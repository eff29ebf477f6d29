-- `report::forms::read_limit` reads the word after the first as a figure, if no other follows.
use Rattle.std.proofs.Common.{refl, ◌∙◌, Some, None}
use Rattle.text.specs.Text.{bytes}
use Rattle.text.specs.Inner.{words_left}
use Rattle.text.proofs.Readings.{figure-known, figure-none}
use Rattle.report.proofs.Layouts.{limit-after, limit-not, limit-none, limit-bad, limit-many, limit-one}
use Rattle.report.proofs.forms.read_limit.Goals as goal

pub returns-in_err-words : goal.returns-in_err-words
unfolding bytes
returns-in_err-words c = rw c.from_residual.ensures (limit-not c.args.line.now c.requires c.in_err-words.ensures)

pub returns-in_err-next : goal.returns-in_err-next
unfolding bytes
returns-in_err-next c =
    let line = c.args.line.now in
    let form = limit-after line c.requires (words_left c.in_ok-words.words) c.in_ok-words.ensures in
    rw c.from_residual-in_err-next.ensures (λ xs. rw (form, c.in_err-next.ensures.steps.0) (limit-none xs))

pub returns-in_err-limit : goal.returns-in_err-limit
unfolding bytes
returns-in_err-limit c =
    let line = c.args.line.now in
    let form = limit-after line c.requires (words_left c.in_ok-words.words) c.in_ok-words.ensures in
    let none = figure-none _ None c.in_err-limit.ensures refl in
    rw c.from_residual-in_err-limit.ensures (λ xs. rw (form, c.in_ok-next.ensures.steps) (limit-bad _ _ none xs))

pub returns-in-Some : goal.returns-in-Some
unfolding bytes
returns-in-Some c =
    let line = c.args.line.now in
    let form = limit-after line c.requires (words_left c.in_ok-words.words) c.in_ok-words.ensures in
    λ xs. rw (form, c.in_ok-next.ensures.steps, c.in-Some.ensures.steps) (limit-many _ _ _ xs)

pub returns-in-None : goal.returns-in-None
unfolding bytes
returns-in-None c =
    let line = c.args.line.now in
    let form = limit-after line c.requires (words_left c.in_ok-words.words) c.in_ok-words.ensures in
    let k = figure-known c.in_ok-next.field-0.now (Some c.in_ok-limit.limit) c.in_ok-limit.limit c.in_ok-limit.ensures refl in
    form ∙ rw (c.in_ok-next.ensures.steps, c.in-None.ensures.steps.0) (rw (← k.1) (limit-one c.in_ok-next.field-0.now k.0))
