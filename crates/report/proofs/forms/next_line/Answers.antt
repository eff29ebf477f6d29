-- `report::forms::next_line` passes over notes. The loop's invariant: what is printed for the input is what is printed for what is left.
use Rattle.std.proofs.Common.{◌<◌, sym, ◌∙◌, length, arith}
use borrow.Author.Tests.{eqb-true, eqb-false}
use Rattle.report.proofs.Inputs.{line_on, line-off, line-end, note-on}
use Rattle.report.proofs.forms.next_line.Goals as goal

pub returns-then-not-is_note : goal.returns-then-not-is_note
returns-then-not-is_note c =
    let left = c.loop-line.left.now in
    let cut = c.in-Some.ensures in
    record {
      shorter = omega (arith, cut.1, c.loop-line.invariant.shorter);
      no_note = sym c.is_note.ensures ∙ c.if-not-is_note.true;
      goes_on = λ s. c.loop-line.invariant.same s ∙ line_on s left c.in-Some.line.now c.in-Some.rest.now cut.0;
    }

pub loop-line-preserved : goal.loop-line-preserved
loop-line-preserved c =
    let left = c.loop-line.left.now in
    let cut = c.in-Some.ensures in
    let noted = sym c.is_note.ensures ∙ c.if-not-is_note.false in
    record {
      shorter = omega (arith, cut.1, c.loop-line.invariant.shorter);
      same = λ s. c.loop-line.invariant.same s ∙ line_on s left c.in-Some.line.now c.in-Some.rest.now cut.0 ∙ note-on c.in-Some.line.now s _ noted;
    }

pub returns-then-is_empty : goal.returns-then-is_empty
returns-then-is_empty c = λ s. c.loop-line.invariant.same s ∙ line-end s c.loop-line.left.now (eqb-true _ 0 (sym c.is_empty.ensures ∙ c.if-is_empty.true))

pub returns-else-is_empty : goal.returns-else-is_empty
returns-else-is_empty c =
    let left = c.loop-line.left.now in
    let not-empty = eqb-false _ 0 (sym c.is_empty.ensures ∙ c.if-is_empty.false) in
    let some : 0 < length left = omega arith in
    record { goes_on = λ s. c.loop-line.invariant.same s ∙ line-off s left c.in_default.ensures some }
