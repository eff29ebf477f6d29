-- `least::Search::down_from` meets its contract. The invariant: of the starts from i on, `start` is the earliest with the greatest gain,
-- and none before low gains as much. Each turn takes or keeps, or ends the search where no start before i is left. The measure is i.
use Rattle.std.proofs.Common.{arith}
use Rattle.least.proofs.Searching.{sum_low, down-start, down-end, down-left, down-low, down-next, scan-take, scan-keep}
use Rattle.least.proofs.Search.down_from.Goals as goal

pub overflow_add-best : goal.overflow_add-best
overflow_add-best c = record { fits = omega (arith, sum_low c.args.self.now.ready c.requires.at) }

pub loop-low-init : goal.loop-low-init
loop-low-init c = down-start c.args.self.now.ready (omega arith) c.requires

pub lowest_left-low-requires : goal.lowest_left-low-requires
lowest_left-low-requires c = down-left c.args.self.now.ready c.loop-low.invariant (omega arith)

pub returns-then-low-i : goal.returns-then-low-i
returns-then-low-i c = down-end c.args.self.now.ready (down-low c.args.self.now.ready c.loop-low.invariant c.lowest_left-low.ensures) (omega arith)

pub overflow_add-sum : goal.overflow_add-sum
overflow_add-sum c =
    let p = c.args.self.now.ready in
    let d = down-low p c.loop-low.invariant c.lowest_left-low.ensures in
    record { fits = omega (arith, sum_low p (down-next p d (omega (arith, c.lowest_left-low.ensures.below)) c.gain-tail.ensures)) }

pub loop-low-preserved-then-best-sum : goal.loop-low-preserved-then-best-sum
loop-low-preserved-then-best-sum c =
    let p = c.args.self.now.ready in
    let d = down-low p c.loop-low.invariant c.lowest_left-low.ensures in
    scan-take p d (omega (arith, c.lowest_left-low.ensures.below)) (down-next p d (omega (arith, c.lowest_left-low.ensures.below)) c.gain-tail.ensures) (omega arith)

pub loop-low-preserved : goal.loop-low-preserved
loop-low-preserved c =
    let p = c.args.self.now.ready in
    let d = down-low p c.loop-low.invariant c.lowest_left-low.ensures in
    scan-keep p d (omega (arith, c.lowest_left-low.ensures.below)) (down-next p d (omega (arith, c.lowest_left-low.ensures.below)) c.gain-tail.ensures) (omega arith)

pub returns : goal.returns
returns c = down-end c.args.self.now.ready c.loop-low.invariant (omega arith)
