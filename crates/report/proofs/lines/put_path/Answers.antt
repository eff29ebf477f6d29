-- `report::lines::put_path` puts its three pieces one after the other; each fits because their lengths add up to the line's.
use native.Mathlib.Omega.{arith}
use Rattle.path.specs.Model.{lists, path_of}
use Rattle.text.specs.Text.{bytes}
use Rattle.text.proofs.Prints.{put_then}
use Rattle.report.specs.Lines.{entries_text, path_line}
use Rattle.report.proofs.Pieces.{path-length}
use Rattle.report.proofs.lines.put_path.Goals as goal

pub put_text-word-requires : goal.put_text-word-requires
put_text-word-requires c =
    let a = c.args in
    omega (arith, path-length a.given (path_of (lists a.path.now.sizes.now a.path.now.losses.now a.path.now.weights.now) a.entries))

pub put_entries-items-requires : goal.put_entries-items-requires
put_entries-items-requires c =
    let a = c.args in
    let p = c.requires in
    record {
      places = p.places;
      order = p.order;
      fits = omega (arith, path-length a.given (path_of (lists a.path.now.sizes.now a.path.now.losses.now a.path.now.weights.now) a.entries));
    }

pub put_text-requires : goal.put_text-requires
put_text-requires c =
    let a = c.args in
    omega (arith, path-length a.given (path_of (lists a.path.now.sizes.now a.path.now.losses.now a.path.now.weights.now) a.entries))

pub returns : goal.returns
unfolding path_line bytes
returns c =
    let a = c.args in
    let entries = entries_text a.given (path_of (lists a.path.now.sizes.now a.path.now.losses.now a.path.now.weights.now) a.entries) in
    let front = put_then {u = entries} c.put_text-word.ensures c.put_entries-items.ensures in
    put_then front c.put_text.ensures
