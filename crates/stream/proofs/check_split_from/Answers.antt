-- `stream::check_split_from` meets its contract: where the table is refused, so is the split.
use mathlib.Core.Path.{sym, ◌∙◌}
use mathlib.Core.List.{[], ◌∷◌}
use Prim.Native.Nat.{min}
use borrow.Author.Tests.{le-leb, eq-eqb}
use Rattle.std.proofs.lemmas.Result.{err_from_is_err_and}
use Rattle.path.specs.Refusal.{check, refusal_of, room_for}
use Rattle.select.specs.Penalty.{valid_penalty}
use Rattle.stream.proofs.Cases.{table-fails}
use Rattle.stream.proofs.check_split_from.Goals as goal

pub returns-in_err-check_table-clause-refusal : goal.returns-in_err-check_table-clause-refusal
unfolding refusal_of
returns-in_err-check_table-clause-refusal c =
    let a = c.args in
    let p = err_from_is_err_and c.from_residual.result c.from_residual.ensures.1 in
    let last = check 4 (valid_penalty a.p a.q) ∷ check 9 (room_for (min a.max_segments a.n) a.rooms.now) ∷ [] in
    rw (
      p.1,
      p.2,
      eq-eqb _ _ (c.is_multiple_of.ensures.0 c.if-not-is_multiple_of.false),
      le-leb _ _ c.if-n-lt1.false,
      le-leb _ _ c.if-n-gt-MAX_SAMPLES.false,
      sym c.limit_in_range.ensures ∙ c.if-not-limit_in_range.false,
    ) (table-fails a.table.now a.n last _ c.in_err-check_table.ensures)
