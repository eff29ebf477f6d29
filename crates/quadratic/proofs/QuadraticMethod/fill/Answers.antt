-- `quadratic::Quadratic::fill` meets its contract: those passed over are left out, the rest is walked down, and the path moves to the front.
use mathlib.Core.Path.{◌∙◌}
use native.Mathlib.Omega.{arith}
use lib.ListN.{length}
use Rattle.path.specs.Model.{Lists, lists, path_of}
use Rattle.path.specs.Update.{tried}
use Rattle.path.proofs.Paths.{length-path}
use Rattle.path.proofs.Updates.{tried-some}
use Rattle.quadratic.specs.Inner.{Listed}
use Rattle.quadratic.proofs.Fills.{copied-front, may-walk, front-listed, walked, filled}
use Rattle.quadratic.proofs.QuadraticMethod.fill.Goals as goal

pub walk_down-first-requires : goal.walk_down-first-requires
walk_down-first-requires c =
    let a = c.args in
    let d = c.drop_passed-models in
    let n = length a.sizes.now in
    let old : Lists = lists a.sizes.now a.losses.now a.weights.now in
    let left : Lists = lists d.new.sizes d.new.losses d.new.weights in
    front-listed left d.result
    (may-walk (tried (path_of old n)) old left d.result n d.ensures c.requires.ok.fits
    (tried-some (path_of old n) (omega (arith, c.requires.ok.some, length-path old n))))

pub returns-clause-held : goal.returns-clause-held
returns-clause-held c =
    let a = c.args in
    let d = c.drop_passed-models in
    let w = c.walk_down-first in
    let n = length a.sizes.now in
    let old : Lists = lists a.sizes.now a.losses.now a.weights.now in
    let left : Lists = lists d.new.sizes d.new.losses d.new.weights in
    let models = tried (path_of old n) in
    let may : Listed left d.result = may-walk models old left d.result n d.ensures c.requires.ok.fits (tried-some (path_of old n) (omega (arith, c.requires.ok.some, length-path old n))) in
    let g = walked left d.result may (lists w.new.sizes w.new.losses w.new.weights) w.result w.ensures in
    let inside = g.inside in
    let s = c.copy_within.ensures.after ∙ copied-front _ w.result d.result (omega arith) (omega (arith, g.sizes.long, may.places.in_sizes)) in
    let l = c.copy_within-2.ensures.after ∙ copied-front _ w.result d.result (omega arith) (omega (arith, g.losses.long, may.places.in_losses)) in
    let k = c.copy_within-3.ensures.after ∙ copied-front _ w.result d.result (omega arith) (omega (arith, g.weights.long, may.places.in_weights)) in
    filled models old left d.result n d.ensures c.requires.ok.fits _ w.result g (lists _ _ _) (λ i. lists (s i) (l i) (k i))
