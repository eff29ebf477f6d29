-- A penalty, the trade's price, is a fraction p / q. Here is its range, and what a model costs at it. Equal fractions are equal
-- penalties: that they select the same is claimed in the crate `hull`.
use Rattle.std.specs.Prelude.{Bool, ◌&&◌, ℕ, ◌+◌, ◌*◌, leb}
use Rattle.path.specs.Model.{Model}

-- The largest numerator is 2^44.
abbrev pub max_numerator : ℕ
max_numerator = 17592186044416

-- The largest denominator.
abbrev pub max_denominator : ℕ
max_denominator = 65535

-- The numerator p is from 0 to 2^44 and the denominator q from 1 to 65,535.
abbrev pub valid_penalty : ℕ → ℕ → Bool
valid_penalty p q = leb p max_numerator && leb 1 q && leb q max_denominator

-- What a model costs at the penalty p / q, times q: what (4) minimizes, with the weight as the regularizer's value (section 2.2).
abbrev pub cost : ℕ → ℕ → Model → ℕ
cost p q m = q * m.loss + p * m.weight
