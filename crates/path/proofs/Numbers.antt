-- The number of a refusal is above 0, so that it tells a refusal from none.
use mathlib.Core.Path.{◌≡◌}
use native.Mathlib.Omega.{arith}
use Rattle.path.specs.declared.refusal.Refusal.{Refusal}
use Rattle.path.specs.declared.refusal.Refusal.TheVariants as refusal
use Rattle.path.specs.Numbers.{number_of}

pub number_some : (r : Refusal) → number_of r ≡ 0 → ⊥
number_some refusal.Empty e = omega arith
number_some refusal.TooMany e = omega arith
number_some refusal.Limit e = omega arith
number_some refusal.Penalty e = omega arith
number_some refusal.Range e = omega arith
number_some refusal.Size e = omega arith
number_some refusal.Loss e = omega arith
number_some refusal.Path e = omega arith
number_some refusal.Room e = omega arith
number_some refusal.NoEntry e = omega arith
number_some refusal.Layout e = omega arith
number_some refusal.Table e = omega arith
number_some refusal.LeastLength e = omega arith
number_some refusal.Weight e = omega arith
