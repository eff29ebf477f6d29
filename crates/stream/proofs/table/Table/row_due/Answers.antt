-- `stream::Table::row_due` meets its contract. The invariant: the row is as is due if its first j values are.
use mathlib.Core.Path.{◌≡◌, ap, sym, ◌∙◌}
use Prim.Native.Nat.{◌+◌, ◌-◌}
use native.Mathlib.Omega.{arith}
use Rattle.stream.specs.Table.{cell_due}
use Rattle.stream.proofs.Due.{row_back, row-stops, row-front, row-fails}
use Rattle.stream.proofs.table.Table.row_due.Goals as goal

pub returns-then-not-marks_due : goal.returns-then-not-marks_due
returns-then-not-marks_due c =
    let a = c.args in
    sym (row-fails a.self.bytes.now a.k _ a.n (omega arith) (sym c.marks_due.ensures ∙ c.if-not-marks_due.true))

pub loop-j-init : goal.loop-j-init
loop-j-init c = (c.unsure_to-j.ensures.most, c.unsure_to-j.ensures.rest)

pub returns-then-not-cell_due : goal.returns-then-not-cell_due
returns-then-not-cell_due c =
    let a = c.args in
    let t = a.self.bytes.now in
    let j = c.loop-j.j in
    let p : j ≡ j - 1 + 1 = omega arith in
    sym (c.loop-j.invariant.1 ∙ row-stops t a.k j (omega arith) (ap (cell_due t a.k) p ∙ sym c.cell_due.ensures ∙ c.if-not-cell_due.true))

pub loop-j-preserved : goal.loop-j-preserved
loop-j-preserved c =
    let a = c.args in
    let t = a.self.bytes.now in
    let j = c.loop-j.j in
    let p : j ≡ j - 1 + 1 = omega arith in
    (omega (arith, c.loop-j.invariant.0), c.loop-j.invariant.1 ∙ row_back t a.k j (omega arith) (ap (cell_due t a.k) p ∙ sym c.cell_due.ensures ∙ c.if-not-cell_due.false))

pub returns : goal.returns
returns c =
    let a = c.args in
    sym (c.loop-j.invariant.1 ∙ row-front a.self.bytes.now a.k c.loop-j.j _ (omega arith) (sym c.marks_due.ensures ∙ c.if-not-marks_due.false))
