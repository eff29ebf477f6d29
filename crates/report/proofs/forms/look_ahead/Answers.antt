-- `report::forms::look_ahead` takes the next line and tests how it opens.
use mathlib.Core.Path.{sym, ◌∙◌}
use Rattle.report.proofs.Turns.{path-by-line, path-by-unended, path-by-end, line-ahead, unended-ahead}
use Rattle.report.proofs.forms.look_ahead.Goals as goal

pub returns-then-waits : goal.returns-then-waits
returns-then-waits c = line-ahead c.args.input.now _ _ c.in-Whole.ensures (sym c.waits.ensures ∙ c.if-waits.true)

pub returns-then-waits-2 : goal.returns-then-waits-2
returns-then-waits-2 c = unended-ahead c.args.input.now _ c.in-Unended.ensures (sym c.waits-in-Unended.ensures ∙ c.if-waits-2.true)

pub returns-else-waits : goal.returns-else-waits
returns-else-waits c = path-by-line c.args.input.now _ _ c.in-Whole.ensures (sym c.waits.ensures ∙ c.if-waits.false)

pub returns-else-waits-2 : goal.returns-else-waits-2
returns-else-waits-2 c = path-by-unended c.args.input.now _ c.in-Unended.ensures (sym c.waits-in-Unended.ensures ∙ c.if-waits-2.false)

pub returns-in-End : goal.returns-in-End
returns-in-End c = path-by-end c.args.input.now c.in-End.ensures
