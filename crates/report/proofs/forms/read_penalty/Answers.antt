-- `report::forms::read_penalty` reads the two words after the first as figures, if no other follows. A line that is a penalty is the text of
-- it, which has at least 11 bytes.
use Rattle.std.proofs.Common.{◌≡◌, refl, ap, ◌∙◌, ℕ, ◌+◌, ◌≤◌, Some, None, List, length, length-append, arith}
use Rattle.text.specs.Text.{bytes, digits, two_text}
use Rattle.text.specs.Inner.{words_left}
use Rattle.text.proofs.Inverse.{figure-digits}
use Rattle.text.proofs.Readings.{figure-known, figure-none}
use Rattle.text.proofs.Texts.{two-length}
use Rattle.text.proofs.Values.{figure-parts}
use Rattle.report.specs.Forms.{form_of, form_text, penalty}
use Rattle.report.proofs.FormsRead.{reads_written}
use Rattle.report.proofs.Layouts.{penalty-after, penalty-not, penalty-none, penalty-bad, penalty-few, penalty-half, penalty-many, penalty-two}
use Rattle.report.proofs.forms.read_penalty.Goals as goal

-- Such a line is long.
long : (line : List ℕ) (p q : ℕ) → form_of line ≡ penalty p q → 11 ≤ length line
unfolding form_text bytes
long line p q e =
    let w = reads_written line (penalty p q) e (λ z. cc) (λ z. cc) in
    let a = (figure-parts (digits p) (figure-digits p w.0.0)).0.some in
    let b = (figure-parts (digits q) (figure-digits q w.0.1)).0.some in
    let l : length line ≡ 7 + (length (two_text p q) + 1) = ap length w.1 ∙ simp length-append (omega arith) in
    omega (arith, two-length p q)

pub returns-in_err-words : goal.returns-in_err-words
unfolding bytes
returns-in_err-words c = rw c.from_residual.ensures (penalty-not c.args.line.now c.requires c.in_err-words.ensures)

pub returns-in_err-next : goal.returns-in_err-next
unfolding bytes
returns-in_err-next c =
    let form = penalty-after c.args.line.now c.requires (words_left c.in_ok-words.words) c.in_ok-words.ensures in
    rw c.from_residual-in_err-next.ensures (λ xs k us. rw (form, c.in_err-next.ensures.steps.0) (penalty-none xs k us))

pub returns-in_err-p : goal.returns-in_err-p
unfolding bytes
returns-in_err-p c =
    let form = penalty-after c.args.line.now c.requires (words_left c.in_ok-words.words) c.in_ok-words.ensures in
    let none = figure-none _ None c.in_err-p.ensures refl in
    rw c.from_residual-in_err-p.ensures (λ xs k us. rw (form, c.in_ok-next.ensures.steps) (penalty-bad xs k us _ _ none))

pub returns-in_err-next-2 : goal.returns-in_err-next-2
unfolding bytes
returns-in_err-next-2 c =
    let form = penalty-after c.args.line.now c.requires (words_left c.in_ok-words.words) c.in_ok-words.ensures in
    rw c.from_residual-in_err-next-2.ensures
    (λ xs k us. rw (form, c.in_ok-next.ensures.steps, c.in_err-next-2.ensures.steps.0) (penalty-few xs k us _))

pub returns-in_err-q : goal.returns-in_err-q
unfolding bytes
returns-in_err-q c =
    let form = penalty-after c.args.line.now c.requires (words_left c.in_ok-words.words) c.in_ok-words.ensures in
    let none = figure-none _ None c.in_err-q.ensures refl in
    rw c.from_residual-in_err-q.ensures
    (λ xs k us. rw (form, c.in_ok-next.ensures.steps, c.in_ok-next-2.ensures.steps) (penalty-half xs k us _ _ _ none))

pub returns-in-Some : goal.returns-in-Some
unfolding bytes
returns-in-Some c =
    let form = penalty-after c.args.line.now c.requires (words_left c.in_ok-words.words) c.in_ok-words.ensures in
    λ xs k us. rw (form, c.in_ok-next.ensures.steps, c.in_ok-next-2.ensures.steps, c.in-Some.ensures.steps) (penalty-many xs k us _ _ _ _)

pub returns-in-None : goal.returns-in-None
unfolding bytes
returns-in-None c =
    let line = c.args.line.now in
    let form = penalty-after line c.requires (words_left c.in_ok-words.words) c.in_ok-words.ensures in
    let v = c.in_ok-next.field-0.now in
    let w = c.in_ok-next-2.field-0.now in
    let p = figure-known v (Some c.in_ok-p.p) c.in_ok-p.p c.in_ok-p.ensures refl in
    let q = figure-known w (Some c.in_ok-q.q) c.in_ok-q.q c.in_ok-q.ensures refl in
    let is : form_of line ≡ penalty c.in_ok-p.p c.in_ok-q.q
    = form ∙ rw (c.in_ok-next.ensures.steps, c.in_ok-next-2.ensures.steps, c.in-None.ensures.steps.0) (rw (← p.1, ← q.1) (penalty-two v w p.0 q.0)) in
    (is, long line c.in_ok-p.p c.in_ok-q.q is)
