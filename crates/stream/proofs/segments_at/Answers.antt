-- `stream::segments_at` meets its contract: the entry at the penalty of the path by the column.
use Rattle.path.specs.Model.{lists}
use Rattle.stream.proofs.Cuts.{segments-are}
use Rattle.stream.proofs.segments_at.Goals as goal

pub returns : goal.returns
returns c =
    let a = c.args in
    segments-are a.table.bytes.now a.j a.count a.penalty.p a.penalty.q _ (lists _ _ _) _
    c.requires.some
    a.penalty.in_range c.column_path-entries.ensures c.select-found.result c.select-found.ensures
