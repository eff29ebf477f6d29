-- `models::build_entries` meets its contract: each method gives its outcome.
use mathlib.Core.Path.{◌∙◌}
use Rattle.build.proofs.Cases.{build-is}
use Rattle.quadratic.proofs.Cases.{quadratic-is}
use Rattle.models.specs.Entries.{lists_in}
use Rattle.models.proofs.build_entries.Goals as goal
use Rattle.models.proofs.build_entries.Goals.{then-older, else-older}

pub returns : goal.returns
returns c =
    let a = c.args in
    elim c.if-older.branch [
      | then-older w ↦ rw (c.from.ensures, w.made-is, w.entries-is, w.if-older.true) (w.build_by-made.ensures ∙ quadratic-is (lists_in a.models.now) (lists_in a.entries.now))
      | else-older w ↦ rw (c.from.ensures, w.made-is, w.entries-is, w.if-older.false) (w.build_by-made-else-older.ensures ∙ build-is (lists_in a.models.now) (lists_in a.entries.now))
    ]
