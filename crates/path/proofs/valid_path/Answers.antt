-- `path::valid_path` meets its contract: there is room for the path or not, and then its order decides.
use mathlib.Core.Path.{sym, ◌∙◌}
use Rattle.path.specs.Refusal.{valid_path}
use Rattle.path.proofs.Order.{room-places}
use Rattle.path.proofs.valid_path.Goals as goal

pub ordered-requires : goal.ordered-requires
ordered-requires g c =
    let a = c.args in
    (room-places (g.M.Models.held a.models.now) a.entries (sym c.path_has_room.ensures ∙ c.if-path_has_room.true)).1

pub returns-then-path_has_room : goal.returns-then-path_has_room
unfolding valid_path
returns-then-path_has_room g c = rw (sym c.path_has_room.ensures ∙ c.if-path_has_room.true) c.ordered.ensures

pub returns-else-path_has_room : goal.returns-else-path_has_room
unfolding valid_path
returns-else-path_has_room g c = rw (sym c.path_has_room.ensures ∙ c.if-path_has_room.false) c.if-path_has_room.false
