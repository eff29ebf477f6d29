-- `select::select_from` meets its contract: refused, or the entry at which the walk ends.
use mathlib.Core.Path.{ap, sym, ◌∙◌}
use Prim.Native.Nat.{◌+◌, ◌-◌}
use native.Mathlib.Omega.{arith}
use Rattle.std.proofs.lemmas.Result.{err_from_is_err_and}
use Rattle.path.specs.Model.{Model}
use Rattle.path.proofs.Numbers.{number_some}
use Rattle.path.proofs.Order.{valid-parts, places-fewer}
use Rattle.select.specs.Select.{entry_is}
use Rattle.select.proofs.Walks.{walkable, selectable, selecting-checks, selected-within, select-refused, select-done}
use Rattle.select.proofs.select_from.Goals as goal

pub returns-in_err-penalty : goal.returns-in_err-penalty
returns-in_err-penalty g c =
    let a = c.args in
    let t = g.M.Models.held a.models.now in
    let r = err_from_is_err_and c.from_residual.result c.from_residual.ensures.1 in
    let n = c.in_err-penalty.ensures.refusal ∙ selecting-checks t a.entries a.p a.q _ c.valid_path.ensures in
    rw (r.1, r.2) (select-refused t a.entries a.p a.q _ n (number_some c.in_err-penalty.field-0.0))

pub walk-at-requires : goal.walk-at-requires
walk-at-requires g c =
    let a = c.args in
    let t = g.M.Models.held a.models.now in
    let n = c.in_ok-penalty.ensures.refusal ∙ selecting-checks t a.entries a.p a.q _ c.valid_path.ensures in
    let may = selectable t a.entries a.p a.q (sym n) in
    walkable t a.entries may.valid may.some

pub entry_at-requires : goal.entry_at-requires
entry_at-requires g c =
    let a = c.args in
    let t = g.M.Models.held a.models.now in
    let x = c.in_ok-penalty.penalty in
    let n = c.in_ok-penalty.ensures.refusal ∙ selecting-checks t a.entries a.p a.q _ c.valid_path.ensures in
    let may = selectable t a.entries a.p a.q (sym n) in
    let w = selected-within t x.p x.q (a.entries - 1) 0 in
    places-fewer t a.entries (c.walk-at.result + 1) (valid-parts t a.entries may.valid).places (omega (arith, may.some, c.walk-at.ensures t.sizes))

pub returns : goal.returns
returns g c =
    let a = c.args in
    let t = g.M.Models.held a.models.now in
    let x = c.in_ok-penalty.ensures.penalty in
    let n = c.in_ok-penalty.ensures.refusal ∙ selecting-checks t a.entries a.p a.q _ c.valid_path.ensures in
    let at = rw (x.1, x.2) at (c.walk-at.ensures t.sizes) in
    ap (λ (m : Model). entry_is c.walk-at.result m) c.entry_at.ensures ∙ select-done t a.entries a.p a.q (sym n) c.walk-at.result at
