-- `stream::Table::columns_due` meets its contract. The invariant: the columns are as is due if their first k rows are.
use mathlib.Core.Path.{◌≡◌, refl, sym, ◌∙◌, ap}
use native.Mathlib.Omega.{arith}
use Rattle.stream.specs.Table.{rows_due}
use Rattle.stream.proofs.Due.{rows_none, rows_back, rows-stop}
use Rattle.stream.proofs.table.Table.columns_due.Goals as goal

pub loop-k-init : goal.loop-k-init
loop-k-init c = (omega arith, refl)

pub returns-then-not-row_due : goal.returns-then-not-row_due
returns-then-not-row_due c =
    let t = c.args.self.bytes.now in
    sym (c.loop-k.invariant.1 ∙ rows-stop t c.args.n c.loop-k.k (omega arith) (sym c.row_due.ensures ∙ c.if-not-row_due.true))

pub loop-k-preserved : goal.loop-k-preserved
loop-k-preserved c =
    let t = c.args.self.bytes.now in
    (omega arith, c.loop-k.invariant.1 ∙ rows_back t c.args.n c.loop-k.k (omega arith) (sym c.row_due.ensures ∙ c.if-not-row_due.false))

pub returns : goal.returns
returns c =
    let t = c.args.self.bytes.now in
    let e : c.loop-k.k ≡ 0 = omega arith in
    sym (c.loop-k.invariant.1 ∙ ap (rows_due t c.args.n) e ∙ rows_none t c.args.n)
