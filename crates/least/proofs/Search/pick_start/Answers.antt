-- `least::Search::pick_start` meets its contract: each call has what it requires from those before it.
use Rattle.std.proofs.Common.{ℕ, List, ℤ, arith}
use Rattle.least.specs.Inner.{PickFrom, StartAt, TailGain}
use Rattle.least.proofs.Searching.{sum_is, sum_low, none-lost}
use Rattle.least.proofs.Search.pick_start.Goals as goal

-- The start at hand, with the gain of its segment.
at-hand : {xs : List ℤ} {d m to s right own : ℕ} → PickFrom d m to s right → TailGain xs s to own → StartAt xs d m to s own
at-hand p e = record { above = p.above; below = p.below; own_is = e }

pub overflow_add-bound : goal.overflow_add-bound
overflow_add-bound c = record { fits = omega (arith, sum_low c.args.self.now.ready (at-hand c.requires c.gain-own.ensures)) }

pub returns-then-bound-top : goal.returns-then-bound-top
returns-then-bound-top c =
    let p = c.args.self.now.ready in
    record {
      picked = none-lost p (at-hand c.requires c.gain-own.ensures) (omega arith) (omega (arith, p.squares_are.are c.args.self.now.to (omega (arith, p.within))));
      limited = c.requires.limited;
    }

pub overflow_sub-top : goal.overflow_sub-top
overflow_sub-top c =
    let p = c.args.self.now.ready in
    omega (arith, p.squares_are.are c.args.self.now.to (omega (arith, p.within)), sum_is p (at-hand c.requires c.gain-own.ensures))
