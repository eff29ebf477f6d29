-- `path::tally::test` meets its contract: the test holds at the first entry, and else goes by the candidate.
use mathlib.Core.Path.{◌≡◌, refl, sym, ◌∙◌}
use Prim.Native.Nat.{suc, ◌-◌}
use native.Mathlib.Omega.{arith}
use Rattle.path.specs.Model.{model, lists, model_at}
use Rattle.path.specs.Update.{below, fraction}
use Rattle.path.proofs.Paths.{first_holds, later-holds}
use Rattle.path.proofs.tally.test.Goals as goal

pub returns-then-entries-eq1 : goal.returns-then-entries-eq1
returns-then-entries-eq1 g c =
    let a = c.args in
    let h = g.M.Models.held a.models.now in
    (λ s k. let t = lists s h.losses h.weights in sym (first_holds t (model_at t (a.entries - 1)) (model k a.loss a.weight) (omega arith)), refl)

pub candidate_below-holds-requires : goal.candidate_below-holds-requires
candidate_below-holds-requires g c =
    let n = c.args.entries in
    let e : suc (n - 2) ≡ n - 1 = omega arith in
    let near = c.requires.1.near (n - 2) (omega arith) in
    rw (c.loss_at.ensures, c.weight_at.ensures, c.loss_at-2.ensures, c.weight_at-2.ensures, ← e) near

pub returns : goal.returns
returns g c =
    let a = c.args in
    let h = g.M.Models.held a.models.now in
    let n = a.entries in
    let l₀ = c.loss_at.ensures in
    let w₀ = c.weight_at.ensures in
    let l₁ = c.loss_at-2.ensures in
    let w₁ = c.weight_at-2.ensures in (
      λ s k.
          let t = lists s h.losses h.weights in
          c.candidate_below-holds.ensures
          ∙ (λ i. below (fraction (l₁ i - a.loss) (a.weight - w₁ i)) (fraction (l₀ i - l₁ i) (w₁ i - w₀ i)))
          ∙ sym (later-holds t (model_at t (n - 1)) (model k a.loss a.weight) (n - 1) (n - 2) (omega arith)),
      refl,
    )
