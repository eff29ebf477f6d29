-- `text::words::read_figure` adds digit to digit. The loop's invariant: the word is a figure if what is left of it is all digits, and
-- its value goes on from the value so far, which is small.
use Rattle.std.proofs.Common.{◌≡◌, refl, sym, ◌∙◌, true, ℕ, ◌+◌, ◌*◌, ◌-◌, ◌^◌, ◌≤◌, ◌<◌, arith, List, length, get_or, inl, inr}
use lib.Dec.{lit<}
use Rattle.text.specs.Text.{max_digits, is_shaped}
use Rattle.text.proofs.Values.{all-digits-on, all-digits-below, all-digits-above, all-digits-end}
use Rattle.text.proofs.Values.{value_on, value-end, value-small, shape, figure-unshaped, figure-off, figure-value}
use Rattle.text.proofs.words.read_figure.Goals as goal

-- A digit is next: with it the value is still small.
small : (w : List ℕ) (i value : ℕ) → i < length w → is_shaped w ≡ true → value < 10 ^ i → get_or w i 0 ≤ 57
    → (value * 10 + (get_or w i 0 - 48) < 10 ^ (i + 1)) × (value * 10 + (get_or w i 0 - 48) < 10 ^ max_digits)
small w i value h s low l = let f = shape w s in value-small value i (get_or w i 0) low (omega arith) l

pub returns-then-not-figure_shaped : goal.returns-then-not-figure_shaped
returns-then-not-figure_shaped c = figure-unshaped _ (sym c.figure_shaped.ensures ∙ c.if-not-figure_shaped.true)

pub loop-b-init : goal.loop-b-init
loop-b-init c = record { shaped = sym c.figure_shaped.ensures ∙ c.if-not-figure_shaped.false; small = lit< tt; digits = refl; value = refl }

pub returns-then-not-is_ascii_digit : goal.returns-then-not-is_ascii_digit
returns-then-not-is_ascii_digit c =
    let l = c.loop-b in
    let w = c.args.word.now in
    elim c.if-not-is_ascii_digit.ensures.cases [
      | inl b ↦ figure-off w (l.invariant.digits ∙ all-digits-below w l.b-index (omega arith) b)
      | inr b ↦ figure-off w (l.invariant.digits ∙ all-digits-above w l.b-index (omega arith) (omega arith) b)
    ]

pub overflow_mul-value : goal.overflow_mul-value
overflow_mul-value c =
    let l = c.loop-b in
    let b = small c.args.word.now l.b-index l.value (omega arith) l.invariant.shaped l.invariant.small (omega (arith, c.if-not-is_ascii_digit.ensures.cases)) in
    record { fits = omega arith }

pub overflow_add-value : goal.overflow_add-value
overflow_add-value c =
    let l = c.loop-b in
    let b = small c.args.word.now l.b-index l.value (omega arith) l.invariant.shaped l.invariant.small (omega (arith, c.if-not-is_ascii_digit.ensures.cases)) in
    record { fits = omega arith }

pub loop-b-preserved : goal.loop-b-preserved
loop-b-preserved c =
    let l = c.loop-b in
    let w = c.args.word.now in
    let low : 48 ≤ get_or w l.b-index 0 = omega (arith, c.if-not-is_ascii_digit.ensures.cases) in
    let high : get_or w l.b-index 0 ≤ 57 = omega (arith, c.if-not-is_ascii_digit.ensures.cases) in
    let b = small w l.b-index l.value (omega arith) l.invariant.shaped l.invariant.small high in
    record {
      shaped = l.invariant.shaped;
      small = omega arith;
      digits = l.invariant.digits ∙ all-digits-on w l.b-index (omega arith) low high;
      value = l.invariant.value ∙ value_on w l.b-index (omega arith) l.value ∙ rw c.from.ensures refl;
    }

pub returns : goal.returns
returns c =
    let l = c.loop-b in
    let w = c.args.word.now in
    let d = all-digits-end w l.b-index (omega arith) in
    let v = value-end w l.b-index l.value (omega arith) in
    figure-value w l.value l.invariant.shaped (l.invariant.digits ∙ d) (l.invariant.value ∙ v)
