-- `stream::Sums::first_start` meets its contract: of all starts, looked at in their order, the first with this sum. There is one.
use mathlib.Core.Path.{◌≡◌, refl}
use Prim.Native.Nat.{ℕ, ◌+◌, ◌≤◌, ◌<◌}
use native.Mathlib.Omega.{arith}
use borrow.Author.Tests.{tests}
use Rattle.std.specs.Option.{MatchOption, IsSome}
use Rattle.std.proofs.Common.{Option, Some, None, rules}
use Rattle.std.proofs.lemmas.Iterator.{first_from_Range}
use Rattle.stream.specs.Inner.{sum_at}
use Rattle.stream.proofs.sums.Sums.first_start.Goals as goal
use Rattle.stream.proofs.sums.Sums.first_start.Goals.{After-find}

some-found : {P : Type 0} (Q : ℕ → Type 0) (r : Option ℕ) → MatchOption r P Q → (P → ⊥) → IsSome r
some-found Q None m h = absurd (h m)
some-found Q (Some i) m h = refl

-- What the search answers.
found : (c : After-find) → (let s = c.args.self in let sum = sum_at s.table.bytes.now s.owns.now s.k in
    MatchOption c.find.result ((t : ℕ) → s.k + 1 ≤ t → t < s.to → sum t ≡ c.args.least → ⊥)
    (λ i. (s.k + 1 ≤ i) × (i < s.to) × (sum i ≡ c.args.least) × ((t : ℕ) → s.k + 1 ≤ t → t < i → sum t ≡ c.args.least → ⊥)))
found c =
    let s = c.args.self in
    let sum = sum_at s.table.bytes.now s.owns.now s.k in
    first_from_Range _ _ _ c.find.result (λ (i : ℕ). sum i ≡ c.args.least) (λ (i : ℕ). sum i ≡ c.args.least → ⊥) c.find.ensures.ran (λ x q k. search (rules, tests)) (λ x q k. search (rules, tests))

pub unwrap-requires : goal.unwrap-requires
unwrap-requires c = some-found _ c.find.result (found c) (λ h. h c.requires.at (omega arith) c.requires.below c.requires.is)

pub returns : goal.returns
returns c =
    let f = rw c.unwrap.ensures at (found (goal.at.returns c).After-find) in
    record { above = omega (arith, f.0); below = f.1; is = f.2; first = λ t l u. f.3 t (omega arith) u }
