-- `build::check_list` meets its contract. The loop's invariant: the models before place i are good, and the last of those entered is
-- the last entry of their path.
use Rattle.build.specs.Inner.{lists_of}
use Rattle.build.proofs.Lists.{Judged}
use Rattle.build.proofs.check_list.Given as goal

abbrev pub invariant-loop-i : goal.invariant-loop-i
invariant-loop-i l = Judged (lists_of l.given) l.count l.i l.entered
