-- `report::put_answers` answers penalty after penalty. The loop's invariant: the penalties up to what is left are answered, and at most
-- 75 bytes are written for each byte of them.
use Rattle.std.proofs.Common.{refl, arith}
use Rattle.path.specs.Numbers.{number_of}
use Rattle.report.proofs.Lengths.{refusal-few}
use Rattle.report.proofs.Turns.{number-small}
use Rattle.report.proofs.Replies.{answered-none, answered-more, answered-bad, answered-end}
use Rattle.report.proofs.put_answers.Goals as goal

pub loop-p-init : goal.loop-p-init
loop-p-init c = record { room = c.requires.0; long = refl; answered = answered-none (omega (arith, c.requires)) }

pub loop-p-preserved : goal.loop-p-preserved
loop-p-preserved c =
    let n = rw c.in-Ok-Some.field-0-is at c.in-Ok-Some.ensures in
    let lp = c.loop-p in
    let u = c.put_answer-place in
    record {
      room = omega (arith, n.shorter, lp.invariant.room, u.ensures.short, u.ensures.put.end_is);
      long = omega (arith, u.auto, lp.invariant.long);
      answered = answered-more lp.invariant.answered _ _ _ n u.ensures.put;
    }

pub returns-in-Ok-None : goal.returns-in-Ok-None
returns-in-Ok-None c = answered-end c.loop-p.invariant.answered ((rw c.in-Ok-None.field-0-is at c.in-Ok-None.ensures) _ _ _)

pub put_refusal-requires : goal.put_refusal-requires
put_refusal-requires c =
    let r = c.in-Err.refusal in
    omega (arith, refusal-few (number_of r) (number-small r), c.requires, c.loop-p.invariant.room, c.loop-p.invariant.long)

pub returns-in-Err : goal.returns-in-Err
returns-in-Err c = answered-bad c.loop-p.invariant.answered _ (c.in-Err.ensures _ _ _) c.put_refusal.ensures
