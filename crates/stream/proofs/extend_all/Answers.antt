-- `stream::extend_all` meets its contract: the next column, and the path by it. Its first value is the loss of one segment.
use mathlib.Core.Path.{sym, subst}
use native.Mathlib.Omega.{arith}
use Rattle.path.specs.Model.{lists}
use Rattle.path.specs.Inner.{HasPlaces}
use Rattle.stream.specs.Extend.{stream_buffers}
use Rattle.stream.specs.Inner.{ColumnFrom}
use Rattle.stream.proofs.StaysDue.{next_low, next-placed}
use Rattle.stream.proofs.Steps.{extended-by}
use Rattle.stream.proofs.extend_all.Goals as goal

pub fill_column-requires : goal.fill_column-requires
fill_column-requires c =
    let p = c.requires in
    record { some = p.some; short = p.short; long = p.long; low = p.low }

pub column_path-requires : goal.column_path-requires
column_path-requires c =
    let p = c.requires in
    let a = c.args in
    let k = c.min-count in
    let f = c.fill_column.ensures in
    let from : ColumnFrom a.samples.now a.table.now = record { some = p.some; short = p.short; long = p.long; low = p.low } in (
      record {
        one = p.some;
        within = p.short;
        some = omega (arith, k.ensures, p.some, p.one);
        few = omega (arith, k.ensures, p.few);
        first_low = rw (f.filled, next-placed a.samples.now a.table.now f.fit from 0 (omega arith)) (next_low a.samples.now a.table.now f.fit from 0 (omega arith) p.some);
      },
      subst (HasPlaces (lists a.path_sizes.now a.path_losses.now a.path_weights.now)) (sym k.ensures) p.fits,
    )

pub returns : goal.returns
returns c =
    let a = c.args in
    let k = c.min-count in
    let f = c.fill_column.ensures in
    record { outcome = extended-by a.samples.now a.max_segments k.result (stream_buffers a.table.now (lists a.path_sizes.now a.path_losses.now a.path_weights.now)) _ (lists _ _ _) _ f.filled k.ensures c.column_path.ensures; fit = f.fit }
