-- `select::check_selection` meets its contract: the number is that of the first check that fails.
use mathlib.Core.Path.{◌≡◌, sym, ◌∙◌}
use native.Mathlib.Omega.{arith}
use borrow.Author.Tests.{le-leb}
use Rattle.std.proofs.Common.{None}
use Rattle.std.proofs.lemmas.Option.{MatchOption-at_some, MatchOption-at_none}
use Rattle.std.proofs.lemmas.Result.{err_from_is_err_and}
use Rattle.path.specs.declared.refusal.Refusal.TheVariants as refusal
use Rattle.path.specs.Refusal.{refusal_of}
use Rattle.select.proofs.check_selection.Goals as goal

pub returns-then-not-valid-clause-refusal : goal.returns-then-not-valid-clause-refusal
unfolding refusal_of
returns-then-not-valid-clause-refusal c = rw c.if-not-valid.true

pub returns-then-entries-eq0-clause-refusal : goal.returns-then-entries-eq0-clause-refusal
unfolding refusal_of
returns-then-entries-eq0-clause-refusal c = rw (c.if-not-valid.false, c.if-entries-eq0.true)

pub returns-in_err-penalty-clause-refusal : goal.returns-in_err-penalty-clause-refusal
unfolding refusal_of
returns-in_err-penalty-clause-refusal c =
    let p = err_from_is_err_and c.from_residual.result c.from_residual.ensures.1 in
    let none : c.new.result ≡ None = c.in_err-penalty.ensures.ok_part in
    let why : c.in_err-penalty.field-0.0 ≡ refusal.Penalty = let v = rw none at c.in_err-penalty.ensures.value in cc in
    rw (p.1, p.2, why, c.if-not-valid.false, le-leb 1 c.args.entries (omega arith), MatchOption-at_none _ _ none c.new.ensures)

pub returns-clause-refusal : goal.returns-clause-refusal
unfolding refusal_of
returns-clause-refusal c =
    let x = MatchOption-at_some _ _ c.in_ok-penalty.penalty c.in_ok-penalty.ensures.ok_part c.new.ensures in
    rw (c.if-not-valid.false, le-leb 1 c.args.entries (omega arith), x.0)

pub returns-clause-penalty : goal.returns-clause-penalty
returns-clause-penalty c = MatchOption-at_some _ _ c.in_ok-penalty.penalty c.in_ok-penalty.ensures.ok_part c.new.ensures
