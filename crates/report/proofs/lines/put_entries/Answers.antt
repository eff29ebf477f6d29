-- `report::lines::put_entries` puts entry after entry. The loop's invariant: the text of the first i entries lies over the output.
use mathlib.Core.Path.{◌≡◌, refl, sym}
use native.Mathlib.Omega.{arith}
use lib.ListN.{length}
use Rattle.path.specs.Model.{lists, path_of}
use Rattle.text.proofs.Prints.{put_then, put_as, put-nothing}
use Rattle.report.specs.Lines.{entries_text}
use Rattle.report.proofs.Items.{entries-more, entry-from}
use Rattle.report.proofs.lines.put_entries.Goals as goal

pub loop-i-init : goal.loop-i-init
unfolding path_of entries_text
loop-i-init c = (refl, put-nothing c.args.output.now c.args.at (omega (arith, c.requires.fits)))

pub put_entry-place-requires : goal.put_entry-place-requires
put_entry-place-requires c =
    let a = c.args in
    let lp = c.loop-i in
    let room = length a.output.now in
    rw lp.invariant.0
    (entry-from a.given (lists a.path.now.sizes.now a.path.now.losses.now a.path.now.weights.now) a.entries a.at room lp.i lp.place
    c.requires c.loop-i-test.true lp.invariant.1.end_is)

pub loop-i-preserved : goal.loop-i-preserved
loop-i-preserved c =
    let a = c.args in
    let lp = c.loop-i in
    let more = entries-more a.given (lists a.path.now.sizes.now a.path.now.losses.now a.path.now.weights.now) lp.i in
    (omega (arith, c.put_entry-place.auto), put_as (sym more) (put_then lp.invariant.1 c.put_entry-place.ensures))

pub returns : goal.returns
returns c =
    let a = c.args in
    let lp = c.loop-i in
    let e : lp.i ≡ a.entries = omega arith in
    rw e at lp.invariant.1
