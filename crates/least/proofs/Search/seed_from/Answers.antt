-- `least::Search::seed_from` meets its contract. The invariant: of the starts from i on none is better than s, nor is any between s and
-- low. The measure is i.
use Rattle.std.proofs.Common.{arith}
use Rattle.least.proofs.Searching.{sum_low, right_end, right-next, right-take, right-left, right-more}
use Rattle.least.proofs.Search.seed_from.Goals as goal

pub overflow_add-bound : goal.overflow_add-bound
overflow_add-bound c = record { fits = omega (arith, sum_low c.args.self.now.ready c.requires.start) }

pub overflow_add-self : goal.overflow_add-self
overflow_add-self c = record { fits = omega (arith, sum_low c.args.self.now.ready (right-next c.args.self.now.ready c.requires c.loop-low.invariant (omega arith) c.gain-tail.ensures)) }

pub returns-then-bound-self : goal.returns-then-bound-self
returns-then-bound-self c =
    let s = c.args.self.now.ready in
    let r = c.loop-low.invariant in
    right-take s c.requires r (omega arith) (right-next s c.requires r (omega arith) c.gain-tail.ensures) (omega arith)

pub overflow_add-bound-in-loop-low : goal.overflow_add-bound-in-loop-low
overflow_add-bound-in-loop-low c = record { fits = omega (arith, sum_low c.args.self.now.ready c.requires.start) }

pub lowest_left-low-requires : goal.lowest_left-low-requires
lowest_left-low-requires c =
    let s = c.args.self.now.ready in
    let r = c.loop-low.invariant in
    right-left s c.requires r (omega arith) (right-next s c.requires r (omega arith) c.gain-tail.ensures) (omega arith)

pub loop-low-preserved : goal.loop-low-preserved
loop-low-preserved c =
    let s = c.args.self.now.ready in
    let r = c.loop-low.invariant in
    right-more s c.requires r (omega arith) (right-next s c.requires r (omega arith) c.gain-tail.ensures) (omega arith) c.lowest_left-low.ensures

pub returns : goal.returns
returns c = right_end c.args.self.now.ready c.requires c.loop-low.invariant (omega arith)
