-- What every method keeps to, of the older one.
use Rattle.std.specs.Prelude.{Bool, true, false, cond, List, [], ◌∷◌, ℕ, ◌≤◌, length, eqb}
use Rattle.std.proofs.Common.{arith}
use Rattle.path.specs.Model.{Model, Lists, path_of}
use Rattle.path.specs.Update.{passed_over, tried}
use Rattle.path.proofs.Paths.{length-path}
use Rattle.quadratic.specs.Quadratic.{next_size, entries_from, path_down, quadratic}

-- No more models are tried than there are.
tried-few : (ms : List Model) → length (tried ms) ≤ length ms
unfolding tried
tried-few [] = omega arith
tried-few (m ∷ ms) = by-test (passed_over (tried ms) m) (tried-few ms)
  where
    by-test : (b : Bool) → length (tried ms) ≤ length ms → length (cond b (tried ms) (m ∷ tried ms)) ≤ length (m ∷ ms)
    by-test true h = omega arith
    by-test false h = omega arith

-- No more are entries.
entries-few : (k : ℕ) (ms : List Model) → length (entries_from k ms) ≤ length ms
unfolding entries_from
entries-few k [] = omega arith
entries-few k (m ∷ r) = by-test (eqb m.size k) (entries-few (next_size m r) r) (entries-few k r)
  where
    by-test : (b : Bool) → length (entries_from (next_size m r) r) ≤ length r → length (entries_from k r) ≤ length r → length (cond b (m ∷ entries_from (next_size m r) r) (entries_from k r)) ≤ length (m ∷ r)
    by-test true h g = omega arith
    by-test false h g = omega arith

down-few : (ms : List Model) → length (path_down ms) ≤ length ms
unfolding path_down
down-few [] = omega arith
down-few (m ∷ r) = omega (arith, entries-few (next_size m r) r)

pub quadratic-few : (a : Lists) (i : ℕ) → length (quadratic a i) ≤ i
quadratic-few a i = omega (arith, down-few (tried (path_of a i)), tried-few (path_of a i), length-path a i)
