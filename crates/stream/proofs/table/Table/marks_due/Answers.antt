-- `stream::Table::marks_due` meets its contract. The invariant: the bits gathered are those of the mark just where each value passed is as is due.
use mathlib.Core.Path.{◌≡◌, sym, ◌∙◌, ap}
use native.Mathlib.Omega.{arith}
use Rattle.stream.specs.Table.{row_due}
use Rattle.stream.proofs.Due.{common-start, common-next}
use Rattle.stream.proofs.table.Table.marks_due.Goals as goal

pub loop-j-init : goal.loop-j-init
loop-j-init c = common-start c.args.self.bytes.now c.args.k

pub loop-j-preserved : goal.loop-j-preserved
loop-j-preserved c =
    let a = c.args in
    common-next a.self.bytes.now a.k c.loop-j.j c.loop-j.common c.value_at-common.result (omega (arith, c.requires.1)) (omega arith) c.value_at-common.ensures c.loop-j.invariant

pub returns : goal.returns
returns c =
    let a = c.args in
    let e : c.loop-j.j ≡ a.m = omega arith in
    sym (ap (row_due a.self.bytes.now a.k) (sym e) ∙ c.loop-j.invariant.is)
