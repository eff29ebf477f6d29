-- What every method keeps to, of the plain one.
use Rattle.std.specs.Prelude.{ℕ, zero, suc, ◌≤◌, length}
use Rattle.std.proofs.Common.{arith}
use Rattle.path.specs.Model.{Lists, model_at}
use Rattle.path.proofs.Updates.{joined-few}
use Rattle.build.specs.Build.{built}

-- As many entries as models, or fewer, are built.
pub built-few : (a : Lists) (i : ℕ) → length (built a i) ≤ i
unfolding built
built-few a zero = omega arith
built-few a (suc i) = omega (arith, (joined-few (built a i) (model_at a i)).0, built-few a i)
