-- `least::Search::right_limit` meets its contract: what stands before the next start loses enough, or the limit is the last start.
use Rattle.std.proofs.Common.{arith}
use Rattle.least.proofs.Searching.{limit-stop, limit-end}
use Rattle.least.proofs.Search.right_limit.Goals as goal

pub returns-then-lost-self : goal.returns-then-lost-self
returns-then-lost-self c = limit-stop c.args.self.now.ready c.loop-right.invariant (omega arith) c.if-lost-self.true

pub returns : goal.returns
returns c = limit-end c.loop-right.invariant (omega arith)
