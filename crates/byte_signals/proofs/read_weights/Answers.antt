-- `byte_signals::read_weights` meets its contract: few weights are all read; of many the last one read is 0 where one after the first 32 is
-- out of range.
use mathlib.Core.Path.{ap, sym, ◌∙◌}
use mathlib.Core.List.{List}
use Prim.Native.Nat.{ℕ}
use native.Mathlib.Omega.{arith}
use lib.ListN.{length, set}
use Rattle.least.specs.Segmentation.{max_segments}
use Rattle.byte_signals.proofs.WeightCuts.{few-kept, all-kept, last-spoilt}
use Rattle.std.proofs.lemmas.List.{map-id}
use Rattle.layout.specs.Items.{items_to}
use Rattle.byte_signals.proofs.read_weights.Goals as goal
use Rattle.byte_signals.proofs.read_weights.Goals.{else-items-gt-MAX_SEGMENTS-via-then-items-gt-MAX_SEGMENTS+else-not-rest_in_range, else-items-gt-MAX_SEGMENTS-via-else-items-gt-MAX_SEGMENTS}

pub read_items-requires : goal.read_items-requires
read_items-requires c = omega (arith, c.requires)

pub returns-then-not-rest_in_range : goal.returns-then-not-rest_in_range
returns-then-not-rest_in_range c =
    let a = c.args in
    let r = c.read_items in
    let out = sym c.rest_in_range.ensures ∙ c.if-not-rest_in_range.true in
    ap (λ (xs : List ℕ). set xs max_segments 0) (r.ensures ∙ map-id (items_to 2 a.weights.now (length a.items.now)))
    ∙ last-spoilt a.weights.now (length a.items.now) c.requires (omega (arith, c.if-items-gt-MAX_SEGMENTS.true, r.auto.items)) out

pub returns-else-items-gt-MAX_SEGMENTS : goal.returns-else-items-gt-MAX_SEGMENTS
returns-else-items-gt-MAX_SEGMENTS c =
    let a = c.args in
    let r = c.read_items in
    let n = length a.items.now in
    r.ensures ∙ map-id (items_to 2 a.weights.now n)
    ∙ elim c.else-items-gt-MAX_SEGMENTS.branch [
      | else-items-gt-MAX_SEGMENTS-via-then-items-gt-MAX_SEGMENTS+else-not-rest_in_range w ↦
          all-kept a.weights.now n c.requires (omega (arith, w.if-items-gt-MAX_SEGMENTS.true, r.auto.items)) (sym w.rest_in_range.ensures ∙ w.if-not-rest_in_range.false)
      | else-items-gt-MAX_SEGMENTS-via-else-items-gt-MAX_SEGMENTS w ↦
          few-kept a.weights.now n c.requires (omega (arith, w.if-items-gt-MAX_SEGMENTS.false, r.auto.items))
    ]
