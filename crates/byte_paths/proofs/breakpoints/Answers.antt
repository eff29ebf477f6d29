-- `byte_paths::breakpoints` meets its contract: refused under 11, or the listing where no byte is left over.
use mathlib.Core.Path.{ap, ◌∙◌}
use native.Mathlib.Omega.{arith}
use Rattle.coding.specs.Coding.{outcome}
use Rattle.coding.specs.Models.{models_coding}
use Rattle.coding.proofs.Calls.{eleven, whole-strings}
use Rattle.path.specs.Model.{lists}
use Rattle.select.specs.declared.BreakpointsResult.{BreakpointsResult}
use Rattle.byte_paths.specs.Paths.{fractions, fractions_coding, breakpoints_answers, breakpoints_call}
use Rattle.byte_paths.proofs.breakpoints.Goals as goal

pub returns-then-spare-numerators-ne0 : goal.returns-then-spare-numerators-ne0
returns-then-spare-numerators-ne0 c =
    let a = c.args in
    let x = lists a.sizes.now a.losses.now a.weights.now in
    let lent = fractions a.numerators.now a.denominators.now in
    ap (λ (r : BreakpointsResult). outcome r lent) c.from.ensures
    ∙ eleven models_coding fractions_coding breakpoints_answers (breakpoints_call a.entries) x lent (λ e. c.if-spare-numerators-ne0.true (omega (arith, c.spare.ensures)))

pub breakpoints_whole-requires : goal.breakpoints_whole-requires
breakpoints_whole-requires c = omega (arith, c.spare.ensures, c.if-spare-numerators-ne0.false)

pub returns : goal.returns
returns c =
    let a = c.args in
    let x = lists a.sizes.now a.losses.now a.weights.now in
    let lent = fractions a.numerators.now a.denominators.now in
    let after = c.breakpoints_whole.new in
    ap (λ (r : BreakpointsResult). outcome r (fractions after.numerators after.denominators)) c.from-2.ensures
    ∙ c.breakpoints_whole.ensures
    ∙ whole-strings models_coding fractions_coding breakpoints_answers (breakpoints_call a.entries) x lent (omega (arith, c.spare.ensures, c.if-spare-numerators-ne0.false))
