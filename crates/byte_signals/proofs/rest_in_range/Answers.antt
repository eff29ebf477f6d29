-- `byte_signals::rest_in_range` meets its contract. The loop's invariant: the weights from place i on are in range just where those after
-- the first 32 are.
use mathlib.Core.Path.{◌≡◌, ap, sym, ◌∙◌}
use mathlib.Core.Bool.{true, false}
use Prim.Native.Nat.{◌/◌}
use native.Mathlib.Omega.{arith}
use lib.ListN.{length, get_or}
use Rattle.layout.specs.Items.{items_of}
use Rattle.path.specs.Refusal.{weight_in_range}
use Rattle.layout.proofs.ItemLists.{length-items}
use Rattle.byte_signals.proofs.WeightCuts.{rest-turn, rest_end}
use Rattle.byte_signals.proofs.rest_in_range.Goals as goal

pub item_at-requires : goal.item_at-requires
item_at-requires c = let ws = c.args.weights.now in omega (arith, length-items 2 ws (length ws / 2))

pub returns-then-not-weight_in_range : goal.returns-then-not-weight_in_range
returns-then-not-weight_in_range c =
    let l = c.loop-i in
    let out : weight_in_range (get_or (items_of 2 c.args.weights.now) l.i 0) ≡ false = ap weight_in_range (sym c.item_at.ensures) ∙ sym c.weight_in_range.ensures ∙ c.if-not-weight_in_range.true in
    sym (sym l.invariant ∙ rest-turn c.args.weights.now l.i (omega arith) ∙ rw out)

pub loop-i-preserved : goal.loop-i-preserved
loop-i-preserved c =
    let l = c.loop-i in
    let passes : weight_in_range (get_or (items_of 2 c.args.weights.now) l.i 0) ≡ true = ap weight_in_range (sym c.item_at.ensures) ∙ sym c.weight_in_range.ensures ∙ c.if-not-weight_in_range.false in
    sym (rest-turn c.args.weights.now l.i (omega arith) ∙ rw passes) ∙ l.invariant

pub returns : goal.returns
returns c = sym (sym c.loop-i.invariant ∙ rest_end c.args.weights.now c.loop-i.i (omega arith))
