-- `least::Search::down_from` meets its contract. The invariant: of the starts from i on, `start` is the earliest with the greatest gain,
-- and none before low gains as much. Each turn takes or keeps, or ends the search where no start before i is left. The measure is i.
use Rattle.least.proofs.Searching.{Down}
use Rattle.least.proofs.Search.down_from.Given as goal

abbrev pub invariant-loop-low : goal.invariant-loop-low
invariant-loop-low l = Down l.self.signal.gains.samples.now l.self.signal.min_segment_len l.self.m l.self.to l.low l.i l.tail l.start l.best

abbrev pub decreases-loop-low : goal.decreases-loop-low
decreases-loop-low l = l.i
