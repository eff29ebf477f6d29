-- `report::forms::words_after` looks for the brackets, and then at the first word.
use Rattle.std.proofs.Common.{sym, ◌∙◌}
use borrow.Author.Tests.{not-true, not-false}
use Rattle.report.specs.Inner.{words_in}
use Rattle.report.proofs.Layouts.{no-opening, no-closing, between-brackets, outside-none, first-is, first-other, first-none}
use Rattle.report.proofs.forms.words_after.Goals as goal

pub returns-in_err-strip_prefix : goal.returns-in_err-strip_prefix
returns-in_err-strip_prefix c =
    let line = c.args.line.now in
    rw c.from_residual.ensures (outside-none c.args.first.now line (no-opening line c.in_err-strip_prefix.ensures.cases))

pub returns-in_err-strip_suffix : goal.returns-in_err-strip_suffix
returns-in_err-strip_suffix c =
    let line = c.args.line.now in
    let o = c.in_ok-strip_prefix.ensures.cases in
    let s = c.in_ok-strip_prefix.field-0.now in
    rw c.from_residual-in_err-strip_suffix.ensures
    (outside-none c.args.first.now line (no-closing line o.0 s o.1 c.in_err-strip_suffix.ensures.cases))

pub returns-in_err-next : goal.returns-in_err-next
returns-in_err-next c =
    let line = c.args.line.now in
    let o = c.in_ok-strip_prefix.ensures.cases in
    let s = c.in_ok-strip_prefix.field-0.now in
    let e = c.in_ok-strip_suffix.ensures.cases in
    let words = between-brackets line o.0 s o.1 e.0 c.in_ok-strip_suffix.field-0.now e.1 in
    let none = c.in_err-next.ensures.steps in
    rw c.from_residual-in_err-next.ensures (first-none c.args.first.now (words_in line) (words ∙ sym c.words_of-words.ensures ∙ none.0))

pub returns-then-ne : goal.returns-then-ne
returns-then-ne c =
    let line = c.args.line.now in
    let o = c.in_ok-strip_prefix.ensures.cases in
    let e = c.in_ok-strip_suffix.ensures.cases in
    let words = between-brackets line o.0 c.in_ok-strip_prefix.field-0.now o.1 e.0 c.in_ok-strip_suffix.field-0.now e.1 in
    let other = not-true _ (sym c.ne.ensures ∙ c.if-ne.true) in
    first-other c.args.first.now (words_in line) _ _ (words ∙ sym c.words_of-words.ensures ∙ c.in_ok-next.ensures.steps) other

pub returns : goal.returns
returns c =
    let line = c.args.line.now in
    let o = c.in_ok-strip_prefix.ensures.cases in
    let e = c.in_ok-strip_suffix.ensures.cases in
    let words = between-brackets line o.0 c.in_ok-strip_prefix.field-0.now o.1 e.0 c.in_ok-strip_suffix.field-0.now e.1 in
    let same = not-false _ (sym c.ne.ensures ∙ c.if-ne.false) in
    first-is c.args.first.now (words_in line) _ _ (words ∙ sym c.words_of-words.ensures ∙ c.in_ok-next.ensures.steps) same
