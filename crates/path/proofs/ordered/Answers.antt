-- `path::ordered` meets its contract. The loop's invariant: the check has come to the entry before the place at hand.
use mathlib.Core.Path.{ap, sym, ◌∙◌}
use Prim.Native.Nat.{◌-◌}
use native.Mathlib.Omega.{arith}
use Rattle.path.specs.Refusal.{in_range, follows}
use Rattle.path.proofs.Turns.{ordered-none, range-fails, reached-last, neighbours-fail, reached-before, reached-first}
use Rattle.path.proofs.ordered.Goals as goal

pub returns-then-entries-eq0 : goal.returns-then-entries-eq0
returns-then-entries-eq0 g c = sym (ordered-none (g.M.Models.held c.args.models.now) c.if-entries-eq0.true)

pub returns-then-not-in_range : goal.returns-then-not-in_range
returns-then-not-in_range g c =
    let n = c.args.entries in
    sym (range-fails (g.M.Models.held c.args.models.now) n (n - 1) (omega arith)
    (ap in_range (sym c.entry_at.ensures) ∙ sym c.in_range.ensures ∙ c.if-not-in_range.true))

pub loop-at-init : goal.loop-at-init
loop-at-init g c =
    let n = c.args.entries in
    reached-last (g.M.Models.held c.args.models.now) n (n - 1) (omega arith)
    (ap in_range (sym c.entry_at.ensures) ∙ sym c.in_range.ensures ∙ c.if-not-in_range.false)

pub returns-then-not-follows : goal.returns-then-not-follows
returns-then-not-follows g c =
    let at = c.loop-at.at - 1 in
    let d = c.entry_at-in-loop-at.ensures in
    let e = c.entry_at-in-loop-at-2.ensures in
    sym (neighbours-fail (g.M.Models.held c.args.models.now) c.args.entries at c.loop-at.invariant (at - 1) (omega arith)
    ((λ i. follows (sym d i) (sym e i)) ∙ sym c.follows.ensures ∙ c.if-not-follows.true))

pub loop-at-preserved : goal.loop-at-preserved
loop-at-preserved g c =
    let at = c.loop-at.at - 1 in
    let d = c.entry_at-in-loop-at.ensures in
    let e = c.entry_at-in-loop-at-2.ensures in
    reached-before (g.M.Models.held c.args.models.now) c.args.entries at c.loop-at.invariant (at - 1) (omega arith)
    ((λ i. follows (sym d i) (sym e i)) ∙ sym c.follows.ensures ∙ c.if-not-follows.false)

pub returns : goal.returns
returns g c =
    c.in_range-2.ensures
    ∙ ap in_range c.entry_at-2.ensures
    ∙ sym (reached-first (g.M.Models.held c.args.models.now) c.args.entries (c.loop-at.at - 1) c.loop-at.invariant (omega arith))
