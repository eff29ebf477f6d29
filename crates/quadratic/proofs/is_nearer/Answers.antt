-- `quadratic::is_nearer` meets its contract: no difference is negative, and both products fit.
use native.Mathlib.Omega.{arith}
use Rattle.path.proofs.Products.{product-fits}
use Rattle.quadratic.proofs.is_nearer.Goals as goal

pub overflow_mul-result : goal.overflow_mul-result
overflow_mul-result c = record { fits = product-fits (omega arith) (omega arith) }

pub overflow_mul-result-2 : goal.overflow_mul-result-2
overflow_mul-result-2 c = record { fits = product-fits (omega arith) (omega arith) }
