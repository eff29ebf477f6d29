-- `report::lines::put_entry` puts the model of the first entry, and of a later one the breakpoint before it and then the model.
use mathlib.Core.Path.{sym, ap}
use native.Mathlib.Omega.{arith}
use lib.ListN.{length}
use Rattle.path.specs.Model.{lists}
use Rattle.text.proofs.Prints.{put_then, put_as}
use Rattle.report.proofs.Items.{entry_first, entry-later, entry_length}
use Rattle.report.proofs.lines.put_entry.Goals as goal

pub put_model-requires : goal.put_model-requires
put_model-requires c =
    omega (arith, ap length (entry_first c.args.given (lists c.args.path.now.sizes.now c.args.path.now.losses.now c.args.path.now.weights.now) c.args.i c.if-i-eq0.true))

pub returns-then-i-eq0 : goal.returns-then-i-eq0
returns-then-i-eq0 c =
    put_as (sym (entry_first c.args.given (lists c.args.path.now.sizes.now c.args.path.now.losses.now c.args.path.now.weights.now) c.args.i c.if-i-eq0.true)) c.put_model.ensures

pub overflow_sub-numerator : goal.overflow_sub-numerator
overflow_sub-numerator c = c.requires.fall (omega (arith, c.if-i-eq0.false))

pub overflow_sub-denominator : goal.overflow_sub-denominator
overflow_sub-denominator c = c.requires.rise (omega (arith, c.if-i-eq0.false))

pub put_breakpoint-place-requires : goal.put_breakpoint-place-requires
put_breakpoint-place-requires c =
    omega (arith, entry_length c.args.given (lists c.args.path.now.sizes.now c.args.path.now.losses.now c.args.path.now.weights.now) c.args.i c.if-i-eq0.false)

pub put_model-requires-2 : goal.put_model-requires-2
put_model-requires-2 c =
    omega (arith, entry_length c.args.given (lists c.args.path.now.sizes.now c.args.path.now.losses.now c.args.path.now.weights.now) c.args.i c.if-i-eq0.false)

pub returns : goal.returns
returns c =
    let both = put_then c.put_breakpoint-place.ensures c.put_model-2.ensures in
    put_as (sym (entry-later c.args.given (lists c.args.path.now.sizes.now c.args.path.now.losses.now c.args.path.now.weights.now) c.args.i c.if-i-eq0.false)) both
