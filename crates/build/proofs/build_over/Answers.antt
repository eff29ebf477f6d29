-- `build::build_over` meets its contract: filled, and then cleared past the path's end.
use mathlib.Core.Path.{◌≡◌, ap, ◌∙◌}
use mathlib.Core.List.{List}
use Prim.Native.Nat.{ℕ, ◌-◌}
use native.Mathlib.Omega.{arith}
use lib.ListN.{length, replicate}
use borrow.Rule.Slice.PartMut.{mid_of, put_mid, mid_len}
use Rattle.path.specs.Model.{lists}
use Rattle.path.specs.Append.{path_left}
use Rattle.path.proofs.Held.{held-left}
use Rattle.build.proofs.build_over.Goals as goal

-- The places of a list of n from k on are cleared.
cleared : (k n : ℕ) (b part : List ℕ) → length b ≡ n → part ≡ replicate (length (mid_of k (length b - k) b)) 0
    → put_mid k (length b - k) b part ≡ put_mid k (n - k) b (replicate (n - k) 0)
cleared k n b part long e =
    ap (put_mid k (length b - k) b) (e ∙ ap (λ (m : ℕ). replicate m 0) (mid_len k (length b) b (omega arith)))
    ∙ ap (λ (m : ℕ). put_mid k (m - k) b (replicate (m - k) 0)) long

pub returns : goal.returns
returns g c =
    let a = c.args in
    let n = length a.sizes.now in
    let t₀ = lists a.sizes.now a.losses.now a.weights.now in
    let f = c.fill-made in
    let t = f.new in
    let k = f.result.entries in
    let level = c.requires.level in
    let whole = c.requires.ok.whole in
    let stays = f.auto in
    held-left (g.M.Method.path t₀ n) t₀ (lists t.sizes t.losses t.weights) k n f.ensures.held c.requires.ok.fits f.result.tests.count (lists _ _ _)
    (cleared k n t.sizes _ stays.sizes (c.fill.ensures.after (λ y e. e)))
    (cleared k n t.losses _ (omega (arith, stays.losses, level, whole.in_losses)) (c.fill-2.ensures.after (λ y e. e)))
    (cleared k n t.weights _ (omega (arith, stays.weights, level, whole.in_weights)) (c.fill-3.ensures.after (λ y e. e)))
    ∙ ap (λ (tests : ℕ). path_left (g.M.Method.path t₀ n) tests n t₀) {y = g.M.Method.tests t₀ n} f.ensures.counted
