-- The number of each refusal, and the number that an outcome answers: that of its refusal, and 0 where there is none.
use Rattle.std.specs.Prelude.{ℕ, Result, Ok, Err}
use Rattle.path.specs.declared.refusal.Refusal.{Refusal}
use Rattle.path.specs.declared.refusal.Refusal.TheVariants as refusal

-- The number of a refusal.
abbrev pub number_of : Refusal → ℕ
number_of refusal.Empty = 1
number_of refusal.TooMany = 2
number_of refusal.Limit = 3
number_of refusal.Penalty = 4
number_of refusal.Range = 5
number_of refusal.Size = 6
number_of refusal.Loss = 7
number_of refusal.Path = 8
number_of refusal.Room = 9
number_of refusal.NoEntry = 10
number_of refusal.Layout = 11
number_of refusal.Table = 12
number_of refusal.LeastLength = 13
number_of refusal.Weight = 14

-- The number that an outcome answers.
abbrev pub refusal_in : {A : Type 0} → Result A Refusal → ℕ
refusal_in (Ok x) = 0
refusal_in (Err r) = number_of r
