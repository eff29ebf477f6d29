-- `signal::Signal::new` meets its contract: what passes its checks is in range.
use native.Mathlib.Omega.{arith}
use Rattle.signal.proofs.Signal.new.Goals as goal

pub invariant_of-result : goal.invariant_of-result
invariant_of-result c = record {
  in_range = record {
    some = omega arith;
    short = omega arith;
    one = omega arith;
    few = omega arith;
    one_sample = omega arith;
    enough = omega arith;
  };
}
