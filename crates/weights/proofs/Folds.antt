-- A list of weights that is cut to one more than the largest limit, with a 0 at its end where one of those cut off is out of range, is
-- refused as the whole list is.
use mathlib.Core.Path.{◌≡◌, refl, ap, sym, ◌∙◌}
use mathlib.Core.Bool.{Bool, true, false, cond, ◌&&◌}
use mathlib.Core.Logic.{⊎_elim}
use mathlib.Core.List.{List, [], ◌∷◌, ◌++◌, append_assoc}
use Prim.Native.Nat.{ℕ, zero, suc, ◌≤◌, ◌<◌}
use native.Mathlib.Omega.{arith}
use lib.ListN.{length, get_or, take, drop, length-append, length-take}
use lib.Seq.{length-take-le, drop-cons, append_snoc, split_at, take_at, drop_at, get_or_at}
use borrow.Author.Tests.{le-leb, lt-leb, ne_eqb}
use Rattle.path.specs.Refusal.{check, refusal_of, weight_in_range}
use Rattle.path.proofs.Cuts.{le-or-lt}
use Rattle.weights.specs.Weights.{all_in_range, fitting, weight_checks}
use Rattle.weights.specs.Inner.{folded}
use Rattle.weights.proofs.Steps.{some_fit}

and_assoc : (a b c : Bool) → ((a && b) && c) ≡ (a && (b && c))
and_assoc true b c = refl
and_assoc false b c = refl

-- The range of weights one after the other.
range-append : (xs ys : List ℕ) → all_in_range (xs ++ ys) ≡ (all_in_range xs && all_in_range ys)
unfolding all_in_range
range-append [] ys = refl
range-append (x ∷ xs) ys = ap (λ (b : Bool). weight_in_range x && b) (range-append xs ys) ∙ sym (and_assoc (weight_in_range x) (all_in_range xs) (all_in_range ys))

range-parts : (c : ℕ) (ws : List ℕ) → all_in_range ws ≡ (all_in_range (take c ws) && all_in_range (drop c ws))
unfolding all_in_range
range-parts zero ws = refl
range-parts (suc c) [] = refl
range-parts (suc c) (w ∷ ws) = ap (λ (b : Bool). weight_in_range w && b) (range-parts c ws) ∙ sym (and_assoc (weight_in_range w) (all_in_range (take c ws)) (all_in_range (drop c ws)))

and-true : (b : Bool) → (b && true) ≡ b
and-true true = refl
and-true false = refl

and_left : (a b : Bool) → (a && b) ≡ true → a ≡ true
and_left true b h = refl
and_left false b h = h

range_cons : (w : ℕ) (ws : List ℕ) → all_in_range (w ∷ ws) ≡ (weight_in_range w && all_in_range ws)
unfolding all_in_range
range_cons w ws = refl

-- The last weight that is kept is in range just where those that are cut off are.
last-in-range : (c : ℕ) (ws : List ℕ) → c < length ws → weight_in_range (cond (all_in_range (drop c ws)) (get_or ws c 0) 0) ≡ all_in_range (drop c ws)
last-in-range c ws h = by-test (all_in_range (drop c ws)) refl
  where
    by-test : (b : Bool) → all_in_range (drop c ws) ≡ b → weight_in_range (cond b (get_or ws c 0) 0) ≡ b
    by-test true e =
        and_left (weight_in_range (get_or ws c 0)) (all_in_range (drop (suc c) ws))
        (sym (range_cons (get_or ws c 0) (drop (suc c) ws)) ∙ ap all_in_range (sym (drop-cons ws c 0 h)) ∙ e)
    by-test false e = refl

one-range : (w : ℕ) → all_in_range (w ∷ []) ≡ weight_in_range w
unfolding all_in_range
one-range w = and-true (weight_in_range w)

-- A list that is not as long as the limit does not fit it.
too_long : (ws : List ℕ) (limit : ℕ) → limit < length ws → fitting ws limit ≡ false
too_long ws limit h = some_fit ws limit (λ z. omega arith) ∙ rw (ne_eqb (length ws) limit (λ z. omega arith))

-- Few weights are not cut.
pub folded-few : (c : ℕ) (ws : List ℕ) → length ws ≤ c → folded c ws ≡ ws
unfolding folded
folded-few c ws h = rw (le-leb (length ws) c h)

-- A limit up to c judges the cut list as the whole.
pub folded-checks : (c : ℕ) (ws : List ℕ) (limit : ℕ) → limit ≤ c → refusal_of (weight_checks (folded c ws) limit) ≡ refusal_of (weight_checks ws limit)
unfolding folded
folded-checks c ws limit h =
    ⊎_elim
    (λ (few : length ws ≤ c). rw (le-leb (length ws) c few))
    (λ (many : c < length ws).
    let z = cond (all_in_range (drop c ws)) (get_or ws c 0) 0 in
    let kept = take c ws ++ (z ∷ []) in
    let long : limit < length kept = omega (arith, length-append (take c ws) (z ∷ []), length-take c ws) in
    let range : all_in_range kept ≡ all_in_range ws = range-append (take c ws) (z ∷ []) ∙ ap (λ (b : Bool). all_in_range (take c ws) && b) (one-range z ∙ last-in-range c ws many) ∙ sym (range-parts c ws) in
    rw (lt-leb (length ws) c many) (λ i. refusal_of (check 5 (range i) ∷ check 14 ((too_long kept limit long ∙ sym (too_long ws limit (omega arith))) i) ∷ [])))
    (le-or-lt (length ws) c)

-- A list of more than c weights is cut after the first c, ks.
pub folded-many : (c : ℕ) (ks : List ℕ) (w : ℕ) (ws : List ℕ) → length ks ≡ c → folded c (ks ++ (w ∷ ws)) ≡ ks ++ (cond (all_in_range (w ∷ ws)) w 0 ∷ [])
unfolding folded
folded-many c ks w ws e =
    let long = lt-leb (length (ks ++ (w ∷ ws))) c (omega (arith, length-append ks (w ∷ ws))) in
    rw (long, take_at ks (w ∷ ws) c e, drop_at ks (w ∷ ws) c e, get_or_at ks w ws 0 c e) refl

-- Weights that are cut and then get more are cut as the whole list is.
pub folded-onto : (c : ℕ) (xs ys : List ℕ) → folded c (folded c xs ++ ys) ≡ folded c (xs ++ ys)
folded-onto c xs ys =
    ⊎_elim
    (λ (few : length xs ≤ c). rw (folded-few c xs few) refl)
    (λ (many : c < length xs).
    let ks = take c xs in
    let w = get_or xs c 0 in
    let us = drop (suc c) xs in
    let z = cond (all_in_range (w ∷ us)) w 0 in
    let kept : length ks ≡ c = length-take-le c xs (omega arith) in
    let parts : xs ≡ ks ++ (w ∷ us) = split_at xs c 0 many in
    let cut : folded c xs ≡ ks ++ (z ∷ []) = ap (folded c) parts ∙ folded-many c ks w us kept in
    ap (λ (l : List ℕ). folded c (l ++ ys)) cut
    ∙ ap (folded c) (append_snoc ks z ys)
    ∙ folded-many c ks z ys kept
    ∙ ap (λ (l : ℕ). ks ++ (l ∷ [])) (last-same w us)
    ∙ sym (folded-many c ks w (us ++ ys) kept)
    ∙ ap (folded c) (sym (append_assoc ks (w ∷ us) ys))
    ∙ ap (λ (l : List ℕ). folded c (l ++ ys)) (sym parts))
    (le-or-lt (length xs) c)
  where
    by-test : (b u : Bool) (w : ℕ) → cond (b && u) (cond b w 0) 0 ≡ cond (b && u) w 0
    by-test true u w = refl
    by-test false u w = refl

    last-same : (w : ℕ) (us : List ℕ) → cond (all_in_range (cond (all_in_range (w ∷ us)) w 0 ∷ ys)) (cond (all_in_range (w ∷ us)) w 0) 0 ≡ cond (all_in_range (w ∷ (us ++ ys))) w 0
    last-same w us =
        let z = cond (all_in_range (w ∷ us)) w 0 in
        let stands : weight_in_range z ≡ all_in_range (w ∷ us) = last-in-range 0 (w ∷ us) (omega arith) in
        rw (range_cons z ys, stands, range-append (w ∷ us) ys) (by-test (all_in_range (w ∷ us)) (all_in_range ys) w)
