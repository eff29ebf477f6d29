-- `stream::extend` meets its contract: the outcome as an answer.
use mir.Syntax.{w16}
use mir.Facts.{to_z-of_z}
use Rattle.stream.proofs.Cases.{fit-if-accepted}
use Rattle.stream.proofs.extend.Goals as goal

pub returns : goal.returns
returns c =
    let e = to_z-of_z {w = w16} c.ranges.sample in
    let done = rw e at c.extend_checked.ensures in
    rw c.into.ensures (record { outcome = done.outcome; fit = fit-if-accepted c.extend_checked.result done.fit })
