-- `select::list_breakpoints` meets its contract: refused, or with the breakpoints at the front of the buffers.
use mathlib.Core.Path.{sym}
use Rattle.std.proofs.lemmas.Result.{err_from_is_err_and}
use Rattle.path.proofs.Numbers.{number_some}
use Rattle.select.proofs.Listings.{breakpoints-refused, listable, breakpoints-done}
use Rattle.select.proofs.list_breakpoints.Goals as goal

pub returns-in_err-count : goal.returns-in_err-count
returns-in_err-count g c =
    let a = c.args in
    let p = err_from_is_err_and c.from_residual.result c.from_residual.ensures.1 in
    rw (p.1, p.2) (breakpoints-refused (g.M.Models.held a.models.now) a.entries a.numerators.now a.denominators.now _ c.in_err-count.ensures.refusal (number_some c.in_err-count.field-0.0))

pub write_breakpoints-requires : goal.write_breakpoints-requires
write_breakpoints-requires g c =
    let a = c.args in
    listable (g.M.Models.held a.models.now) a.entries a.numerators.now a.denominators.now (sym c.in_ok-count.ensures.refusal) c.in_ok-count.count c.in_ok-count.ensures.counted

pub returns : goal.returns
returns g c =
    let a = c.args in
    let t = g.M.Models.held a.models.now in
    let written = c.write_breakpoints.ensures in
    breakpoints-done t a.entries a.numerators.now a.denominators.now (sym c.in_ok-count.ensures.refusal) c.in_ok-count.count c.in_ok-count.ensures.counted _ _ (written.0.is t.sizes) (written.1.is t.sizes)
