-- `least::Search::lowest_left` meets its contract: by the row starts with room for a segment are out, and by the floor the others.
use Rattle.std.proofs.Common.{arith}
use Rattle.least.proofs.Searching.{floor-low, left-next, left-none}
use Rattle.least.proofs.Search.lowest_left.Goals as goal

pub overflow_add-rest : goal.overflow_add-rest
overflow_add-rest c =
    let e = c.later-next.ensures in
    record { fits = omega (arith, floor-low c.args.self.now.ready c.requires {next = c.later-next.result} (omega arith) (omega (arith, c.requires.below)), c.requires.goal_low) }

pub returns-then-self-i : goal.returns-then-self-i
returns-then-self-i c = left-none c.args.self.now.ready c.requires c.later-next.ensures (omega arith) (omega arith)

pub returns : goal.returns
returns c = left-next c.args.self.now.ready c.requires c.later-next.ensures (omega arith)
