-- The order check, which goes from the last entry back. It asks for the range of the last entry and of the first alone, because an entry
-- in order between them has a smaller size and weight than the last one, a smaller loss than the first, and neither size nor weight is 0.
use mathlib.Core.Path.{◌≡◌, refl, ap, sym, ◌∙◌}
use mathlib.Core.Bool.{Bool, true, false, ◌&&◌}
use Prim.Native.Nat.{ℕ, zero, suc, ◌≤◌, ◌<◌}
use native.Mathlib.Omega.{arith}
use borrow.Author.Tests.{le-leb}
use Rattle.path.specs.Model.{Model, Lists, model_at, path_of}
use Rattle.path.specs.Refusal.{max_size, max_weight, in_range, follows, ordered}
use Rattle.path.proofs.Order.{Within, within, Before, follows-before, last-in-range}

-- What bounds the entries before a model.
pub record Small (m : Model) : Type 0 where
  pub size : m.size ≤ max_size
  pub weight : m.weight ≤ max_weight

in-range-small : (m : Model) → in_range m ≡ true → Small m
in-range-small m h = let w = within m h in record { size = w.small; weight = w.light }

pub before_small : {d e : Model} → Before d e → Small e → Small d
before_small b s = record { size = omega (arith, b.sizes, s.size); weight = omega (arith, b.weights, s.weight) }

whole-range : (m : Model) → Within m → in_range m ≡ true
whole-range m w = rw (le-leb _ _ w.positive, le-leb _ _ w.small, le-leb _ _ w.low, le-leb _ _ w.weighs, le-leb _ _ w.light)

-- An entry of bounded size and weight is in range where one before it is.
range-after : (d e : Model) → in_range d ≡ true → Before d e → Small e → in_range e ≡ true
range-after d e h b s =
    whole-range e (record {
      positive = omega (arith, b.sizes);
      small = s.size;
      low = omega (arith, b.losses, (within d h).low);
      weighs = omega (arith, b.weights);
      light = s.weight;
    })

-- A path of no entry.
pub ordered-none : (t : Lists) {n : ℕ} → n ≡ 0 → ordered (path_of t n) ≡ true
unfolding path_of ordered
ordered-none t e = rw e

pub ordered-one : (t : Lists) {at : ℕ} → at ≡ 0 → ordered (path_of t (suc at)) ≡ in_range (model_at t 0)
unfolding path_of ordered
ordered-one t {at = zero} e = refl
ordered-one t {at = suc at} e = absurd (omega arith)

pub last-fails : (t : Lists) (n : ℕ) → in_range (model_at t n) ≡ false → ordered (path_of t (suc n)) ≡ false
unfolding path_of ordered
last-fails t zero h = h
last-fails t (suc n) h = ap (λ (x : Bool). x && follows (model_at t n) (model_at t (suc n)) && ordered (path_of t (suc n))) h

ordered-turn : (t : Lists) (a : ℕ) → ordered (path_of t (suc (suc a))) ≡ (in_range (model_at t (suc a)) && follows (model_at t a) (model_at t (suc a)) && ordered (path_of t (suc a)))
unfolding path_of ordered
ordered-turn t a = refl

fails-between : (x y : Bool) → (x && false && y) ≡ false
fails-between true y = refl
fails-between false y = refl

fails-after : (x y : Bool) → (x && y && false) ≡ false
fails-after true true = refl
fails-after true false = refl
fails-after false y = refl

-- One turn, at entry b, which comes after entry a.
module _ (t : Lists) (a b : ℕ) (e : b ≡ suc a) where
  ordered_at : ordered (path_of t (suc b)) ≡ (in_range (model_at t b) && follows (model_at t a) (model_at t b) && ordered (path_of t b))
  ordered_at = rw e (ordered-turn t a)

  pub order-fails : follows (model_at t a) (model_at t b) ≡ false → ordered (path_of t (suc b)) ≡ false
  order-fails h = rw (ordered_at, h) (fails-between (in_range (model_at t b)) (ordered (path_of t b)))

  -- Where the two are in order, it goes by the entries up to a.
  pub entry-passes : follows (model_at t a) (model_at t b) ≡ true → Small (model_at t b) → ordered (path_of t (suc b)) ≡ ordered (path_of t (suc a))
  entry-passes h s = by-test (ordered (path_of t (suc a))) refl
    where
      by-test : (o : Bool) → ordered (path_of t (suc a)) ≡ o → ordered (path_of t (suc b)) ≡ o
      by-test true g =
          let r = range-after (model_at t a) (model_at t b) (last-in-range t a g) (follows-before (model_at t a) (model_at t b) h) s in
          rw (ordered_at, r, h, e) g
      by-test false g = rw (ordered_at, e, g) (fails-after (in_range (model_at t (suc a))) (follows (model_at t a) (model_at t (suc a))))

-- The check of n entries has come to entry `at`: the entries up to it are ordered just where all are, and its size and weight are small.
pub record Reached (t : Lists) (n at : ℕ) : Type 0 where
  pub inside : at < n
  pub same : ordered (path_of t (suc at)) ≡ ordered (path_of t n)
  pub small : Small (model_at t at)

-- It begins at the last entry, and fails where that is out of range.
module _ (t : Lists) (n last : ℕ) (e : n ≡ suc last) where
  pub range-fails : in_range (model_at t last) ≡ false → ordered (path_of t n) ≡ false
  range-fails h = rw e (last-fails t last h)

  pub reached-last : in_range (model_at t last) ≡ true → Reached t n last
  reached-last h = record { inside = omega arith; same = rw e; small = in-range-small (model_at t last) h }

module _ (t : Lists) (n at : ℕ) (r : Reached t n at) where
  -- It goes on to the entry before, and fails where the two are not in order.
  module _ (before : ℕ) (e : at ≡ suc before) where
    pub neighbours-fail : follows (model_at t before) (model_at t at) ≡ false → ordered (path_of t n) ≡ false
    neighbours-fail h = sym r.same ∙ order-fails t before at e h

    pub reached-before : follows (model_at t before) (model_at t at) ≡ true → Reached t n before
    reached-before h =
        record {
          inside = omega (arith, r.inside);
          same = sym (entry-passes t before at e h r.small) ∙ r.same;
          small = before_small (follows-before (model_at t before) (model_at t at) h) r.small;
        }

  -- It ends at the first entry.
  pub reached-first : at ≡ 0 → ordered (path_of t n) ≡ in_range (model_at t 0)
  reached-first e = sym r.same ∙ ordered-one t e
