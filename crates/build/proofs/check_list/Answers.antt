-- `build::check_list` meets its contract. The loop's invariant: the models before place i are good, and the last of those entered is
-- the last entry of their path.
use mathlib.Core.Path.{sym, ◌∙◌}
use native.Mathlib.Omega.{arith}
use Rattle.std.proofs.lemmas.Result.{err_from_is_err_and}
use Rattle.path.proofs.Numbers.{number_some}
use Rattle.build.specs.Inner.{lists_of}
use Rattle.build.proofs.Lists.{judged-none, judged-lacks, judged-bad, judged-passed, judged-entered, judged-all}
use Rattle.build.proofs.check_list.Goals as goal
use Rattle.build.proofs.check_list.Goals.{then-not-passed_over, else-not-passed_over}

pub loop-i-init : goal.loop-i-init
loop-i-init c = judged-none _ _

pub returns-then-not-has_room : goal.returns-then-not-has_room
returns-then-not-has_room c = judged-lacks c.loop-i.invariant c.loop-i-test.true (sym c.has_room.ensures ∙ c.if-not-has_room.true)

pub returns-in_err-check_model : goal.returns-in_err-check_model
returns-in_err-check_model c =
    let p = err_from_is_err_and c.from_residual.result c.from_residual.ensures.1 in
    let room = sym c.has_room.ensures ∙ c.if-not-has_room.false in
    rw (p.1, p.2) (judged-bad c.loop-i.invariant c.loop-i-test.true room c.entry_at-new.ensures c.in_err-check_model.ensures (number_some c.in_err-check_model.field-0.0))

pub loop-i-preserved : goal.loop-i-preserved
loop-i-preserved c =
    let l = c.loop-i in
    let t = lists_of c.args.given.now in
    let new = c.entry_at-new.result in
    let room = sym c.has_room.ensures ∙ c.if-not-has_room.false in
    let over = c.passed_over.ensures t.sizes t.weights new.size new.weight in
    elim c.if-not-passed_over.branch [
      | then-not-passed_over w ↦ rw w.entered-is
          (judged-entered l.invariant c.loop-i-test.true room c.entry_at-new.ensures c.in_ok-check_model.ensures (sym w.if-not-passed_over.true ∙ over))
      | else-not-passed_over w ↦ rw w.entered-is
          (judged-passed l.invariant c.loop-i-test.true room c.entry_at-new.ensures c.in_ok-check_model.ensures (sym w.if-not-passed_over.false ∙ over))
    ]

pub returns : goal.returns
returns c = judged-all c.loop-i.invariant (omega arith)
