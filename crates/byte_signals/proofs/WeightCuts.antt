-- Of the weights of a call the first 32 are kept, and one more that is 0 where it or a later one is out of range. Weights cut so are
-- refused as all of them are, and weights that are accepted are not cut.
use mathlib.Core.Path.{◌≡◌, refl, ap, sym, ◌∙◌}
use mathlib.Core.Bool.{true, false, cond, ◌&&◌}
use mathlib.Core.Logic.{⊎_elim}
use mathlib.Core.List.{List, [], ◌∷◌, ◌++◌}
use Prim.Native.Nat.{ℕ, suc, ◌+◌, ◌*◌, ◌/◌, ◌≤◌, ◌<◌, min}
use native.Mathlib.Nat.{eq-zero-or-pos}
use native.Mathlib.Omega.{arith}
use lib.Dec.{leb, eqb}
use lib.ListN.{length, get_or, take, drop, set}
use lib.Seq.{get_or_at, get_or-take, set_at, take-suc, length-take-le}
use borrow.Author.Tests.{leb-true, lt-leb, eqb-true}
use Rattle.layout.specs.Item.{item}
use Rattle.layout.specs.Items.{items_to, items_of}
use Rattle.layout.proofs.ItemLists.{length-items, take-items}
use Rattle.coding.specs.Coding.{unsigneds}
use Rattle.coding.proofs.Strings.{items_back}
use Rattle.coding.proofs.Cutting.{Cutting}
use Rattle.path.specs.Refusal.{Check, check, refusal_of, weight_in_range}
use Rattle.path.proofs.Checks.{both, passed, both-pass, passes_on, fails-early}
use Rattle.segment.specs.Segment.{max_samples}
use Rattle.least.specs.Segmentation.{max_segments}
use Rattle.weights.specs.Weights.{all_in_range, rising, fitting, weight_checks}
use Rattle.weights.specs.Inner.{folded}
use Rattle.weights.proofs.Steps.{range-turn, range-end}
use Rattle.weights.proofs.Folds.{folded-few, folded-checks}
use Rattle.signal.specs.SignalPath.{valid_limit, valid_len, input_checks}
use Rattle.byte_signals.specs.Inner.{read_weights}
use Rattle.byte_signals.proofs.SignalCuts.{check-cut}

-- Weights are only read, and cut so.
abbrev pub weights_cut : Cutting (unsigneds 2)
weights_cut =
    record {
      taken = folded max_segments;
      rejoined = λ xs front. xs;
      Fits = λ b xs. Unit {0};
      read = λ b xs. folded max_segments (items_of 2 b);
      left = λ t b xs. b;
      parts = λ xs. refl;
      reads = λ b xs h. refl;
      writes = λ b held whole xs h. sym (items_back 2 b held whole);
      stays = λ b. refl;
    }

-- An item of many.
item-at : (w : List ℕ) (i n : ℕ) → i < n → get_or (items_to 2 w n) i 0 ≡ item 2 w (2 * i)
unfolding items_to
item-at w i n h =
    sym (get_or-take (suc i) (items_to 2 w n) i 0 (omega arith))
    ∙ ap (λ (xs : List ℕ). get_or xs i 0) (take-items 2 w (suc i) n h)
    ∙ get_or_at (items_to 2 w i) (item 2 w (2 * i)) [] 0 i (length-items 2 w i)

-- The range of the weights from one on.
pub rest-turn : (w : List ℕ) (i : ℕ) → i < length w / 2
    → all_in_range (drop i (items_of 2 w)) ≡ (weight_in_range (get_or (items_of 2 w) i 0) && all_in_range (drop (i + 1) (items_of 2 w)))
rest-turn w i h = range-turn (items_of 2 w) i (omega (arith, length-items 2 w (length w / 2)))

pub rest_end : (w : List ℕ) (i : ℕ) → length w / 2 ≤ i → all_in_range (drop i (items_of 2 w)) ≡ true
rest_end w i h = range-end (items_of 2 w) i (omega (arith, length-items 2 w (length w / 2)))

-- What is read of the weights, k of them.
module _ (w : List ℕ) (k : ℕ) (e : k ≡ min (length w / 2) read_weights) where
  abbrev all : List ℕ
  all = items_of 2 w

  long : length all ≡ length w / 2
  long = length-items 2 w (length w / 2)

  -- Few are all of them.
  pub few-kept : k ≤ max_segments → items_to 2 w k ≡ folded max_segments all
  few-kept few = let same : k ≡ length w / 2 = omega arith in ap (items_to 2 w) same ∙ sym (folded-few max_segments all (omega (arith, long)))

  -- Of many the first 32 and one more.
  module _ (many : max_segments < k) where
    kept-are : items_to 2 w k ≡ take max_segments all ++ (get_or all max_segments 0 ∷ [])
    kept-are =
        let same : k ≡ suc max_segments = omega arith in
        ap (items_to 2 w) same
        ∙ sym (take-items 2 w (suc max_segments) (length w / 2) (omega arith))
        ∙ take-suc all max_segments 0 (omega (arith, long))

    folds-to : (z : ℕ) → cond (all_in_range (drop max_segments all)) (get_or all max_segments 0) 0 ≡ z → take max_segments all ++ (z ∷ []) ≡ folded max_segments all
    unfolding folded
    folds-to z f = rw (lt-leb (length all) max_segments (omega (arith, long)), f)

    -- The one more is its own where those after the first 32 are in range, and else it is set to 0.
    pub all-kept : all_in_range (drop max_segments all) ≡ true → items_to 2 w k ≡ folded max_segments all
    all-kept f = kept-are ∙ folds-to (get_or all max_segments 0) (rw f)

    pub last-spoilt : all_in_range (drop max_segments all) ≡ false → set (items_to 2 w k) max_segments 0 ≡ folded max_segments all
    last-spoilt f =
        ap (λ (xs : List ℕ). set xs max_segments 0) kept-are
        ∙ set_at (take max_segments all) (get_or all max_segments 0) [] 0 max_segments (length-take-le max_segments all (omega (arith, long)))
        ∙ folds-to 0 (rw f)

-- Checks that decide alike do so after weights that are refused alike.
pub weights-first : (vs ws : List ℕ) (limit : ℕ) (ds es : List Check) → refusal_of (weight_checks vs limit) ≡ refusal_of (weight_checks ws limit)
    → refusal_of ds ≡ refusal_of es → refusal_of (weight_checks vs limit ++ ds) ≡ refusal_of (weight_checks ws limit ++ es)
weights-first vs ws limit ds es e f =
    ⊎_elim
    (λ (z : refusal_of (weight_checks vs limit) ≡ 0).
    passes_on (weight_checks vs limit) ds refl z ∙ f ∙ sym (passes_on (weight_checks ws limit) es refl (sym e ∙ z)))
    (λ (p : 0 < refusal_of (weight_checks vs limit)).
    fails-early (weight_checks vs limit) ds refl (λ z. omega arith) ∙ e ∙ sym (fails-early (weight_checks ws limit) es refl (λ z. omega arith)))
    (eq-zero-or-pos (refusal_of (weight_checks vs limit)))

-- So does a least length before them.
pub weighed-cut : (n limit d : ℕ) (ws : List ℕ) (ds es : List Check) → limit ≤ max_segments → refusal_of ds ≡ refusal_of es
    → refusal_of (check 13 (valid_len n d) ∷ (weight_checks (folded max_segments ws) limit ++ ds)) ≡ refusal_of (check 13 (valid_len n d) ∷ (weight_checks ws limit ++ es))
weighed-cut n limit d ws ds es few e =
    let vs = folded max_segments ws in
    check-cut (check 13 (valid_len n d)) (weight_checks vs limit ++ ds) (weight_checks ws limit ++ es)
    (λ _. weights-first vs ws limit ds es (folded-checks max_segments ws limit few) e)

-- Weights that fit are not more than the limit.
fitting-few : (ws : List ℕ) (limit : ℕ) → fitting ws limit ≡ true → length ws ≤ limit
unfolding fitting
fitting-few [] limit h = omega arith
fitting-few (w ∷ ws) limit h = omega (arith, eqb-true (length (w ∷ ws)) limit (both (eqb (length (w ∷ ws)) limit) (rising (w ∷ ws)) h).0)

-- So accepted weights are not cut.
pub accepted-weights : (n limit d : ℕ) (ws : List ℕ) (ds : List Check) → refusal_of (input_checks n limit d ws ++ ds) ≡ 0 → folded max_segments ws ≡ ws
accepted-weights n limit d ws ds h =
    let first = (both-pass (input_checks n limit d ws) ds refl h).0 in
    let a = passed (check 1 (leb 1 n)) (check 2 (leb n max_samples) ∷ check 3 (valid_limit limit) ∷ check 13 (valid_len n d) ∷ weight_checks ws limit) (omega arith) first in
    let b = passed (check 2 (leb n max_samples)) (check 3 (valid_limit limit) ∷ check 13 (valid_len n d) ∷ weight_checks ws limit) (omega arith) a.1 in
    let c = passed (check 3 (valid_limit limit)) (check 13 (valid_len n d) ∷ weight_checks ws limit) (omega arith) b.1 in
    let v = passed (check 13 (valid_len n d)) (weight_checks ws limit) (omega arith) c.1 in
    let five = passed (check 5 (all_in_range ws)) (check 14 (fitting ws limit) ∷ []) (omega arith) v.1 in
    let fourteen = passed (check 14 (fitting ws limit)) [] (omega arith) five.1 in
    let few = leb-true limit max_segments (both (leb 1 limit) (leb limit max_segments) c.0).1 in
    folded-few max_segments ws (omega (arith, few, fitting-few ws limit fourteen.0))
