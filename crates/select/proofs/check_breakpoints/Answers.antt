-- `select::check_breakpoints` meets its contract: its checks are those of a listing from a path that is valid or not.
use mathlib.Core.Path.{◌∙◌}
use Rattle.select.proofs.Listings.{listing-checks}
use Rattle.select.proofs.check_breakpoints.Goals as goal

pub returns-clause-refusal : goal.returns-clause-refusal
returns-clause-refusal g c =
    let a = c.args in
    c.check_listing.ensures.refusal
    ∙ listing-checks (g.M.Models.held a.models.now) a.entries a.numerators_room a.denominators_room _ c.valid_path.ensures
