-- `report::forms::keep_weight` keeps the weight in the place that is due to it.
use mathlib.Core.Path.{sym, ◌∙◌}
use native.Mathlib.Omega.{arith}
use Rattle.report.proofs.Keeping.{kept-few, kept_out, kept-last, kept_more}
use Rattle.report.proofs.forms.keep_weight.Goals as goal

pub offset_bounds-weights-count : goal.offset_bounds-weights-count
offset_bounds-weights-count c = omega (arith, c.requires.0)

pub bounds-weights-count : goal.bounds-weights-count
bounds-weights-count c = omega (arith, c.requires.0)

pub returns-then-count-lt-MAX_SEGMENTS : goal.returns-then-count-lt-MAX_SEGMENTS
returns-then-count-lt-MAX_SEGMENTS c =
    let a = c.args in
    kept-few a.weights.now a.count a.weight c.requires.0 c.requires.1 c.if-count-lt-MAX_SEGMENTS.true

pub bounds-weights-32 : goal.bounds-weights-32
bounds-weights-32 c = omega (arith, c.requires.0)

pub returns-then-not-weight_in_range : goal.returns-then-not-weight_in_range
returns-then-not-weight_in_range c =
    let a = c.args in
    let out = sym c.weight_in_range.ensures ∙ c.if-not-weight_in_range.true in
    kept_out a.weights.now a.count a.weight c.requires.0 c.requires.1 c.if-count-lt-MAX_SEGMENTS.false out

pub offset_bounds-weights-count-then-count-eq-MAX_SEGMENTS : goal.offset_bounds-weights-count-then-count-eq-MAX_SEGMENTS
offset_bounds-weights-count-then-count-eq-MAX_SEGMENTS c = omega (arith, c.requires.0)

pub bounds-weights-count-then-count-eq-MAX_SEGMENTS : goal.bounds-weights-count-then-count-eq-MAX_SEGMENTS
bounds-weights-count-then-count-eq-MAX_SEGMENTS c = omega (arith, c.requires.0)

pub returns-then-count-eq-MAX_SEGMENTS : goal.returns-then-count-eq-MAX_SEGMENTS
returns-then-count-eq-MAX_SEGMENTS c =
    let a = c.args in
    let in-range = sym c.weight_in_range.ensures ∙ c.if-not-weight_in_range.false in
    kept-last a.weights.now a.count a.weight c.requires.0 c.requires.1 c.if-count-eq-MAX_SEGMENTS.true in-range

pub returns : goal.returns
returns c =
    let a = c.args in
    let in-range = sym c.weight_in_range.ensures ∙ c.if-not-weight_in_range.false in
    kept_more a.weights.now a.count a.weight c.requires.0 c.requires.1 (omega (arith, c.if-count-lt-MAX_SEGMENTS.false, c.if-count-eq-MAX_SEGMENTS.false)) in-range
