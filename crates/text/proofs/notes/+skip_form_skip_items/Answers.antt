-- `text::notes::skip_form` and `text::notes::skip_items` call each other. The loop of the second goes on past a form or past a plain
-- byte; each answer is what `closes` says of the text from i on.
use Rattle.std.proofs.Common.{◌∙◌, ◌-◌, arith}
use Rattle.std.specs.Prelude.{Some, None}
use Rattle.text.proofs.Nests.{at-end, at-closing, at_plain, at_low, at_high, nested}
use Rattle.text.proofs.notes.+skip_form_skip_items.Goals as goal

pub skip_items-returns-then-b-eq41-clause-means : goal.skip_items-returns-then-b-eq41-clause-means
skip_items-returns-then-b-eq41-clause-means t c = c.loop-i.invariant.2 ∙ at-closing c.args.text.now c.loop-i.i (7 - c.args.depth) (omega arith) c.if-b-eq41.true

pub skip_items-loop-i-preserved-then-b-eq40 : goal.skip_items-loop-i-preserved-then-b-eq40
skip_items-loop-i-preserved-then-b-eq40 t c =
    let n = nested c.args.text.now c.loop-i.i c.args.depth (omega arith) c.if-b-eq40.true (omega arith) (Some c.in_ok-i.i) c.in_ok-i.ensures.means in
    let p = c.in_ok-i.ensures.past in
    (omega (arith, p.0), p.1, c.loop-i.invariant.2 ∙ n)

pub skip_items-returns-in_err-i-clause-means : goal.skip_items-returns-in_err-i-clause-means
skip_items-returns-in_err-i-clause-means t c =
    let n = nested c.args.text.now c.loop-i.i c.args.depth (omega arith) c.if-b-eq40.true (omega arith) None c.in_err-i.ensures.means in
    rw c.from_residual.ensures (c.loop-i.invariant.2 ∙ n)

pub skip_items-returns-then-b-lt32-clause-means : goal.skip_items-returns-then-b-lt32-clause-means
skip_items-returns-then-b-lt32-clause-means t c =
    let l = at_low c.args.text.now c.loop-i.i (7 - c.args.depth) (omega arith) c.if-b-eq41.false c.if-b-eq40.false in
    c.loop-i.invariant.2 ∙ l c.if-b-lt32.true

pub skip_items-returns-then-b-gt126-clause-means : goal.skip_items-returns-then-b-gt126-clause-means
skip_items-returns-then-b-gt126-clause-means t c =
    let h = at_high c.args.text.now c.loop-i.i (7 - c.args.depth) (omega arith) c.if-b-eq41.false c.if-b-eq40.false in
    c.loop-i.invariant.2 ∙ h c.if-b-lt32.false c.if-b-gt126.true

pub skip_items-loop-i-preserved : goal.skip_items-loop-i-preserved
skip_items-loop-i-preserved t c =
    let p = at_plain c.args.text.now c.loop-i.i (7 - c.args.depth) (omega arith) c.if-b-eq41.false c.if-b-eq40.false in
    (omega arith, omega arith, c.loop-i.invariant.2 ∙ p c.if-b-lt32.false c.if-b-gt126.false)

pub skip_items-returns-clause-means : goal.skip_items-returns-clause-means
skip_items-returns-clause-means t c = c.loop-i.invariant.2 ∙ at-end c.args.text.now c.loop-i.i (7 - c.args.depth) (omega arith)
