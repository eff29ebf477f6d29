-- `quadratic::walk_down` meets its contract. The loop's invariant: the entries found lie at the end of the places, the one found last
-- stood at place `at`, and the models before it are as they were.
use mathlib.Core.Path.{sym, subst}
use Prim.Native.Nat.{◌-◌}
use native.Mathlib.Omega.{arith}
use lib.ListN.{length}
use Rattle.path.specs.Model.{Model, Lists, lists}
use Rattle.path.proofs.Held.{set_model}
use Rattle.quadratic.proofs.Descents.{Descended, descended-none, still-searchable, descended-all, descended-more}
use Rattle.quadratic.proofs.walk_down.Goals as goal

pub loop-at-init : goal.loop-at-init
loop-at-init c =
    let a = c.args in
    descended-none (lists a.sizes.now a.losses.now a.weights.now) (length a.sizes.now) c.requires (length a.sizes.now - 1) (omega (arith, c.requires.some))

pub find_nearest-next-requires : goal.find_nearest-next-requires
find_nearest-next-requires c =
    let a = c.args in
    let l = c.loop-at in
    (c.loop-at-test.true, still-searchable (lists a.sizes.now a.losses.now a.weights.now) (length a.sizes.now) c.requires (lists l.sizes l.losses l.weights) l.at l.first l.invariant)

pub loop-at-preserved : goal.loop-at-preserved
loop-at-preserved c =
    let a = c.args in
    let l = c.loop-at in
    let t₀ : Lists = lists a.sizes.now a.losses.now a.weights.now in
    let t : Lists = lists l.sizes l.losses l.weights in
    let next = c.find_nearest-next in
    subst (λ (m : Model). Descended t₀ (set_model t (l.first - 1) m) (length a.sizes.now) next.result (l.first - 1)) (sym c.entry_at-entry.ensures)
    (descended-more t₀ (length a.sizes.now) c.requires t l.at l.first l.invariant next.result (next.ensures l.sizes) (l.first - 1) (omega (arith, c.loop-at-test.true, l.invariant.above)))

pub returns : goal.returns
returns c =
    let a = c.args in
    let l = c.loop-at in
    descended-all (lists a.sizes.now a.losses.now a.weights.now) (length a.sizes.now) c.requires (lists l.sizes l.losses l.weights) l.at l.first l.invariant (omega arith)
