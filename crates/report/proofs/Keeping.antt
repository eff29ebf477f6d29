-- Weights that are kept one by one: at each step the buffer holds those read so far as `folded` cuts them.
use mathlib.Core.Path.{◌≡◌, refl, sym, ap, ◌∙◌}
use mathlib.Core.Bool.{Bool, true, false, cond, ◌&&◌}
use mathlib.Core.List.{List, [], ◌∷◌, ◌++◌, append_assoc, append-nil}
use Prim.Native.Nat.{ℕ, suc, ◌+◌, ◌≤◌, ◌<◌}
use native.Mathlib.Numerals.{add-one}
use native.Mathlib.Omega.{arith}
use lib.ListN.{length, get_or, take, drop, set, length-append, take-append-drop}
use lib.Seq.{length-take-le, take-take, take-suc, take-suc-set, append_snoc}
use Rattle.path.specs.Refusal.{weight_in_range}
use Rattle.least.specs.Segmentation.{max_segments}
use Rattle.weights.specs.Weights.{all_in_range}
use Rattle.weights.specs.Inner.{folded}
use Rattle.weights.proofs.Folds.{folded-few, folded-many, folded-onto}
use Rattle.report.specs.Inner.{KeptFront, WeightKept}

-- Weights of which the last is out of range are cut to the first ones and a 0.
out-cut : (c : ℕ) (ks ys : List ℕ) (w : ℕ) → length ks ≡ c → weight_in_range w ≡ false → folded c (ks ++ (ys ++ (w ∷ []))) ≡ ks ++ (0 ∷ [])
unfolding all_in_range
out-cut c ks [] w e h = folded-many c ks w [] e ∙ rw h refl
out-cut c ks (y ∷ ys) w e h = folded-many c ks y (ys ++ (w ∷ [])) e ∙ rw (last_out ys, none (weight_in_range y)) refl
  where
    none : (b : Bool) → (b && false) ≡ false
    none true = refl
    none false = refl

    last_out : (us : List ℕ) → all_in_range (us ++ (w ∷ [])) ≡ false
    last_out [] = rw h refl
    last_out (u ∷ us) = rw (last_out us) (none (weight_in_range u))

module _ (buffer : List ℕ) (n w : ℕ) (long : max_segments < length buffer) (k : KeptFront buffer n) where
  stored : n < length buffer → take (n + 1) (set buffer n w) ≡ take n buffer ++ (w ∷ [])
  stored h = rw add-one (take-suc-set buffer n w h)

  -- There is a place of its own for the weight.
  pub kept-few : n < max_segments → WeightKept buffer n w (set buffer n w) (n + 1)
  kept-few h =
      let kept = take n buffer in
      let few : length (kept ++ (w ∷ [])) ≤ max_segments = omega (arith, length-append kept (w ∷ []), length-take-le n buffer (omega arith)) in
      record { few = omega arith; is = stored (omega arith) ∙ sym (folded-few max_segments (kept ++ (w ∷ [])) few) }

  -- It is past them and out of range.
  pub kept_out : max_segments ≤ n → weight_in_range w ≡ false → WeightKept buffer n w (set buffer max_segments 0) (max_segments + 1)
  kept_out h o =
      let kept = take n buffer in
      let ks = take max_segments kept in
      let ys = drop max_segments kept in
      let same : ks ≡ take max_segments buffer = take-take max_segments n buffer h in
      let many : length ks ≡ max_segments = ap length same ∙ length-take-le max_segments buffer (omega arith) in
      let parts : kept ++ (w ∷ []) ≡ ks ++ (ys ++ (w ∷ []))
      = ap (λ (l : List ℕ). l ++ (w ∷ [])) (sym (take-append-drop max_segments kept)) ∙ append_assoc ks ys (w ∷ []) in
      record {
        few = omega arith;
        is = take-suc-set buffer max_segments 0 long ∙ rw (sym same) (sym (ap (folded max_segments) parts ∙ out-cut max_segments ks ys w many o));
      }

  -- It is the first past them.
  pub kept-last : n ≡ max_segments → weight_in_range w ≡ true → WeightKept buffer n w (set buffer n w) (n + 1)
  unfolding all_in_range
  kept-last e i =
      let kept = take n buffer in
      let many : length kept ≡ max_segments = length-take-le n buffer (omega arith) ∙ e in
      record { few = omega arith; is = stored (omega arith) ∙ sym (folded-many max_segments kept w [] many ∙ rw i refl) }

  -- It is a later one.
  pub kept_more : max_segments < n → weight_in_range w ≡ true → WeightKept buffer n w buffer n
  unfolding all_in_range
  kept_more h i =
      let e : n ≡ suc max_segments = omega (arith, k.few) in
      let ks = take max_segments buffer in
      let l = get_or buffer max_segments 0 in
      let kept : take n buffer ≡ ks ++ (l ∷ []) = ap (λ (m : ℕ). take m buffer) e ∙ take-suc buffer max_segments 0 long in
      let many : length ks ≡ max_segments = length-take-le max_segments buffer (omega arith) in
      let cut : folded max_segments (take n buffer ++ (w ∷ [])) ≡ ks ++ (cond (weight_in_range l && true) l 0 ∷ [])
      = rw kept (ap (folded max_segments) (append_snoc ks l (w ∷ [])) ∙ folded-many max_segments ks l (w ∷ []) many ∙ rw i refl) in
      let before : take n buffer ≡ ks ++ (cond (weight_in_range l && true) l 0 ∷ [])
      = sym k.folded_is ∙ ap (folded max_segments) kept ∙ folded-many max_segments ks l [] many in
      record { few = k.few; is = before ∙ sym cut }

-- The weights kept with those that follow are cut as with one of them kept more.
module _ {buffer₀ : List ℕ} {n w : ℕ} {buffer : List ℕ} {r : ℕ} (k : WeightKept buffer₀ n w buffer r) where
  pub kept_on : (more : List ℕ) → folded max_segments (take n buffer₀ ++ (w ∷ more)) ≡ folded max_segments (take r buffer ++ more)
  kept_on more =
      let kept = take n buffer₀ in
      ap (folded max_segments) (sym (append_snoc kept w more))
      ∙ sym (ap (λ (l : List ℕ). folded max_segments (l ++ more)) k.is ∙ folded-onto max_segments (kept ++ (w ∷ [])) more)

  pub kept-front : KeptFront buffer r
  kept-front =
      let all = take n buffer₀ ++ (w ∷ []) in
      record {
        few = k.few;
        folded_is =
            ap (folded max_segments) (k.is ∙ sym (append-nil (folded max_segments all)))
            ∙ folded-onto max_segments all []
            ∙ ap (folded max_segments) (append-nil all)
            ∙ sym k.is;
      }

-- No weights are kept at first.
pub kept-none : (buffer : List ℕ) → KeptFront buffer 0
kept-none buffer = record { few = omega arith; folded_is = folded-few max_segments [] (omega arith) }
