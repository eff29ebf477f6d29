-- `models::build_items` meets its contract: the models are read to three lists, the path is built there, and where that is accepted it goes
-- over the entries.
use mathlib.Core.Path.{refl, ap, sym, ◌∙◌}
use Rattle.std.proofs.lemmas.Result.{err_from_is_err_and}
use Rattle.path.specs.Model.{lists}
use Rattle.path.specs.Append.{path_outcome}
use Rattle.path.proofs.Numbers.{number_some}
use Rattle.models.proofs.Fronts.{read-is, long-read, entries-refused, entries-room, entries-accepted}
use Rattle.models.proofs.build_items.Goals as goal

pub returns-in_err-made : goal.returns-in_err-made
returns-in_err-made g c =
    let a = c.args in
    let m = c.build_within.new in
    let b = c.unzip.new in
    let p = err_from_is_err_and c.from_residual.result c.from_residual.ensures.1 in
    let is = read-is g.M.Method.path g.M.Method.tests a.models.now a.entries.now (lists a.sizes.now a.losses.now a.weights.now) (lists b.sizes b.losses b.weights) _ c.requires c.unzip.ensures c.in_err-made.ensures in
    rw (p.1, p.2) (entries-refused g.M.Method.path g.M.Method.tests g.met.M.Method.few a.models.now a.entries.now _ (lists m.sizes m.losses m.weights) is (number_some c.in_err-made.field-0.0))

pub zip-requires : goal.zip-requires
zip-requires g c =
    let a = c.args in
    let m = c.build_within.new in
    let b = c.unzip.new in
    let t = lists m.sizes m.losses m.weights in
    let z = lists a.sizes.now a.losses.now a.weights.now in
    let is = read-is g.M.Method.path g.M.Method.tests a.models.now a.entries.now z (lists b.sizes b.losses b.weights) _ c.requires c.unzip.ensures c.in_ok-made.ensures in
    let w = c.build_within.auto in
    let u = c.unzip.auto in
    let long = long-read a.models.now z t c.requires (w.sizes ∙ u.sizes) (w.losses ∙ u.losses) (w.weights ∙ u.weights) in (
      entries-room g.M.Method.path g.M.Method.tests g.met.M.Method.few a.models.now a.entries.now _ t is refl long,
      record { sizes = refl; losses = long.losses ∙ sym long.sizes; weights = long.weights ∙ sym long.sizes },
    )

pub returns : goal.returns
returns g c =
    let a = c.args in
    let m = c.build_within.new in
    let b = c.unzip.new in
    let t = lists m.sizes m.losses m.weights in
    let z = lists a.sizes.now a.losses.now a.weights.now in
    let is = read-is g.M.Method.path g.M.Method.tests a.models.now a.entries.now z (lists b.sizes b.losses b.weights) _ c.requires c.unzip.ensures c.in_ok-made.ensures in
    let w = c.build_within.auto in
    let u = c.unzip.auto in
    let long = long-read a.models.now z t c.requires (w.sizes ∙ u.sizes) (w.losses ∙ u.losses) (w.weights ∙ u.weights) in
    ap (path_outcome _) c.zip.ensures
    ∙ entries-accepted g.M.Method.path g.M.Method.tests g.met.M.Method.few a.models.now a.entries.now _ t is refl long
