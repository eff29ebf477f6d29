-- Where sizes are their own weights, weights say nothing that sizes do not; and the sizes up to the limit, lent as weights, pass their
-- checks and weigh each size by itself.
use mathlib.Core.Path.{◌≡◌, refl, ap, sym, subst, ◌∙◌}
use mathlib.Core.Bool.{Bool, true, false, cond, ◌&&◌}
use mathlib.Core.Logic.{⊎_elim}
use mathlib.Core.List.{List, [], ◌∷◌, ◌++◌}
use Prim.Native.Nat.{ℕ, zero, suc, ◌+◌, ◌*◌, ◌-◌, ◌≤◌, ◌<◌, min}
use native.Mathlib.Nat.{not-suc-le-zero, eq-zero-or-pos}
use native.Mathlib.Omega.{arith}
use lib.Dec.{ltb, leb, eqb}
use lib.IntN.{ℤ}
use lib.ListN.{length, get_or}
use borrow.Author.Tests.{le-leb, lt-ltb, eq-eqb, leb-true}
use Rattle.layout.specs.Items.{items_to}
use Rattle.coding.specs.Coding.{outcome, signeds, encoded_over, on_bytes}
use Rattle.coding.proofs.Small.{Every}
use Rattle.path.specs.Model.{Model, model, Lists, lengths, model_at, path_of, values_of, sizes_of, weights_of}
use Rattle.path.specs.Update.{fraction, extended, joined}
use Rattle.path.specs.Buffer.{overwritten_to, overwritten_by}
use Rattle.path.specs.Refusal.{Check, check, refusal_of, by_checks, max_size, max_loss, max_weight, weight_in_range, in_range, value_above, size_above, loss_not_above}
use Rattle.path.specs.Append.{PathOutcome, append_checks, append_of}
use Rattle.path.proofs.Checks.{both, check-passes, last-passes}
use Rattle.path.proofs.Cuts.{by-checks-cut}
use Rattle.path.proofs.Cases.{append-refused, append-accepted}
use Rattle.build.specs.Build.{built, count_of, build_checks, build_of}
use Rattle.build.proofs.Cases.{build-refused, build-accepted}
use Rattle.hull.proofs.Quadratics.{quadratic-claim}
use Rattle.select.specs.Penalty.{valid_penalty}
use Rattle.select.specs.Select.{selected, select_checks, select_of}
use Rattle.select.specs.declared.SelectResult.{SelectResult}
use Rattle.select.proofs.Walks.{select-done, select-refused}
use Rattle.segment.specs.Segment.{max_samples}
use Rattle.least.specs.Segmentation.{max_segments}
use Rattle.weights.specs.Weights.{all_in_range, rising, fitting, weight_checks, weight_at}
use Rattle.weights.proofs.Steps.{weight-none, weight-given, some_fit, none-fit}
use Rattle.signal.specs.Signal.{size_count, place_count, least_losses, loss_below, path_by, signal_path}
use Rattle.signal.specs.SignalPath.{PathBuffers, path_rooms, valid_limit, valid_len, input_checks, room_check, SignalPathOutcome, signal_path_refused, signal_path_left, signal_path_of}
use Rattle.signal.specs.Split.{SplitBuffers, split_rooms, SplitOutcome, split_refused, split_at, split_of}
use Rattle.byte_signals.specs.Signals.{path_coding, signal_path_answers, signal_path_told, split_coding, split_answers, split_told}
use Rattle.byte_signals.proofs.SignalCuts.{check-cut}
use Rattle.byte_signals.proofs.WeightCuts.{weights-first}
use Rattle.demands.specs.SizesAsWeights.{OwnWeight, OwnWeights, SameLists, OwnWeightRules, OwnWeightCalls, sizes_from, sizes_up_to, SizesForNone, SizesAsWeights}
use Rattle.demands.proofs.EveryEntry.{every-joined, every-path, every-built}

-- A test that stands twice.
range-once : (a b c : Bool) → (a && b && c && (a && b)) ≡ (a && b && c)
range-once true true true = refl
range-once true true false = refl
range-once true false c = refl
range-once false b c = refl

order-once : (a b : Bool) → (a && b && a) ≡ (a && b)
order-once true true = refl
order-once true false = refl
order-once false b = refl

-- A weight is above the last one's just where the size is.
above_same : (path : List Model) (m : Model) → OwnWeights path → OwnWeight m
    → value_above (λ (e : Model). e.weight) path m ≡ value_above (λ (e : Model). e.size) path m
unfolding value_above
above_same [] m f g = refl
above_same (e ∷ r) m f g = λ i. ltb (f.0 i) (g i)

-- So after 6 the check of 14 decides nothing.
once_more : (a : Bool) (cs : List Check) → refusal_of (check 6 a ∷ check 14 a ∷ cs) ≡ refusal_of (check 6 a ∷ cs)
unfolding refusal_of
once_more true cs = refl
once_more false cs = refl

own-weight-rules : OwnWeightRules
own-weight-rules =
    record {
      range = λ m e.
          ap (λ (w : ℕ). leb 1 m.size && leb m.size max_size && leb m.loss max_loss && weight_in_range w) e
          ∙ range-once (leb 1 m.size) (leb m.size max_size) (leb m.loss max_loss);
      order = λ d e f g.
          (λ i. ltb d.size e.size && ltb e.loss d.loss && ltb (f i) (g i)) ∙ order-once (ltb d.size e.size) (ltb e.loss d.loss);
      checks = λ path m f g.
          let last = check 7 (loss_not_above path m) ∷ [] in
          check-cut (check 5 (in_range m)) _ _
          (λ _. (λ i. refusal_of (check 6 (size_above path m) ∷ check 14 (above_same path m f g i) ∷ last)) ∙ once_more (size_above path m) last);
      breakpoints = λ d e f g. (λ i. fraction (d.loss - e.loss) (g i - f i));
      costs = λ p q m e. (λ i. q * m.loss + p * e i);
    }

-- A path whose sizes are its weights, and buffers that it overwrites.
own-values : (path : List Model) → Every OwnWeight path → weights_of path ≡ sizes_of path
unfolding values_of
own-values [] f = refl
own-values (e ∷ r) f = λ i. own-values r f.1 i ++ (f.0 i ∷ [])

own-filled : (path : List Model) (n : ℕ) (t : Lists) → Every OwnWeight path → SameLists t → SameLists (overwritten_by path n t)
own-filled path n t f e = λ i. overwritten_to (own-values path f i) n (e i)

own_at : (t : Lists) → SameLists t → (i : ℕ) → OwnWeight (model_at t i)
own_at t e i = ap (λ (xs : List ℕ). get_or xs i 0) e

own-append : (t : Lists) (n : ℕ) (m : Model) → SameLists t → OwnWeight m → SameLists (append_of t n m).buffers
own-append t n m e h =
    ⊎_elim
    (λ (z : refusal_of (append_checks t n m) ≡ 0).
    subst (λ (o : PathOutcome). SameLists o.buffers) (sym (append-accepted t n m z))
    (own-filled (joined (path_of t n) m) n t (every-joined OwnWeight (path_of t n) m h (every-path OwnWeight t (own_at t e) n)) e))
    (λ (p : 0 < refusal_of (append_checks t n m)). subst (λ (o : PathOutcome). SameLists o.buffers) (sym (append-refused t n m (λ z. omega arith))) e)
    (eq-zero-or-pos (refusal_of (append_checks t n m)))

own-build : (given t : Lists) → SameLists given → SameLists t → SameLists (build_of given t).buffers
own-build given t g e =
    let c = refusal_of (build_checks given (lengths t)) in
    ⊎_elim
    (λ (z : c ≡ 0).
    subst (λ (o : PathOutcome). SameLists o.buffers) (build-accepted given t z)
    (own-filled (built given (count_of given)) (count_of given) t (every-built OwnWeight given (own_at given g) (count_of given)) e))
    (λ (p : 0 < c). subst (λ (o : PathOutcome). SameLists o.buffers) (build-refused given t c refl (λ z. omega arith)) e)
    (eq-zero-or-pos c)

own-select : (t : Lists) (n p q : ℕ) → SameLists t → (select_of t n p q).weight ≡ (select_of t n p q).size
own-select t n p q e =
    let c = refusal_of (select_checks t n p q) in
    ⊎_elim
    (λ (z : c ≡ 0). subst (λ (r : SelectResult). r.weight ≡ r.size) (select-done t n p q z (selected t n p q) refl) (own_at t e (selected t n p q)))
    (λ (g : 0 < c). subst (λ (r : SelectResult). r.weight ≡ r.size) (select-refused t n p q c refl (λ z. omega arith)) refl)
    (eq-zero-or-pos c)

own-weight-calls : OwnWeightCalls
own-weight-calls =
    record {
      append = own-append;
      build = own-build;
      quadratic = λ given t g e. subst SameLists (sym (ap (λ (o : PathOutcome). o.buffers) (quadratic-claim given t).whole)) (own-build given t g e);
      select = own-select;
    }

-- The sizes from k on: how many there are, each of them, that they are in range, and that they rise.
from-long : (k n : ℕ) → length (sizes_from k n) ≡ n
from-long k zero = refl
from-long k (suc n) = ap suc (from-long (suc k) n)

from_at : (k n i : ℕ) → i < n → get_or (sizes_from k n) i 0 ≡ k + i
from_at k zero i h = absurd (not-suc-le-zero h)
from_at k (suc n) zero h = omega arith
from_at k (suc n) (suc i) h = from_at (suc k) n i (omega arith) ∙ omega arith

from-range : (k n : ℕ) → 1 ≤ k → k + n ≤ suc max_weight → all_in_range (sizes_from k n) ≡ true
unfolding all_in_range
from-range k zero one few = refl
from-range k (suc n) one few = rw (le-leb 1 k one, le-leb k max_weight (omega arith)) (from-range (suc k) n (omega arith) (omega arith))

from-rise : (k n : ℕ) → rising (sizes_from k n) ≡ true
unfolding rising
from-rise k zero = refl
from-rise k (suc zero) = refl
from-rise k (suc (suc n)) = rw (lt-ltb k (suc k) (omega arith)) (from-rise (suc k) (suc n))

-- The sizes up to the limit pass as weights.
sizes-pass : (limit : ℕ) → limit ≤ max_segments → refusal_of (weight_checks (sizes_up_to limit) limit) ≡ 0
sizes-pass zero few = none-fit [] 0 refl
sizes-pass (suc n) few =
    let ws = sizes_up_to (suc n) in
    let long = from-long 1 (suc n) in
    let fits : fitting ws (suc n) ≡ true = some_fit ws (suc n) (λ z. omega arith) ∙ rw (eq-eqb (length ws) (suc n) long) (from-rise 1 (suc n)) in
    check-passes (check 5 (all_in_range ws)) (check 14 (fitting ws (suc n)) ∷ []) (from-range 1 (suc n) (omega arith) (omega arith))
    ∙ last-passes (check 14 (fitting ws (suc n))) fits

-- They weigh each size by itself, so the path is that without weights.
sizes-weigh : (limit i : ℕ) → i < limit → weight_at (sizes_up_to limit) i ≡ weight_at [] i
sizes-weigh limit i h =
    weight-given (sizes_up_to limit) i (λ z. omega (arith, from-long 1 limit))
    ∙ from_at 1 limit i h
    ∙ (omega (arith, weight-none [] i refl))

path-weights : (ws vs : List ℕ) (f : ℕ → ℕ) (k : ℕ) → ((i : ℕ) → i < k → weight_at ws i ≡ weight_at vs i) → path_by ws f k ≡ path_by vs f k
unfolding path_by
path-weights ws vs f zero h = refl
path-weights ws vs f (suc k) h =
    let rest = path-weights ws vs f k (λ i l. h i (omega arith)) in
    let last = h k (omega arith) in
    λ i. cond (loss_below (rest i) (model (suc k) (f k) (last i))) (extended (rest i) (model (suc k) (f k) (last i))) (rest i)

same-path : (xs : List ℤ) (limit d : ℕ) → signal_path xs d (sizes_up_to limit) (size_count xs limit d) ≡ signal_path xs d [] (size_count xs limit d)
same-path xs limit d =
    path-weights (sizes_up_to limit) [] (least_losses xs d) (size_count xs limit d) (λ i h. sizes-weigh limit i (omega arith))

-- Nor do they change what the checks say.
same-checks : (n limit d : ℕ) (ds : List Check) → refusal_of (input_checks n limit d [] ++ ds) ≡ refusal_of (input_checks n limit d (sizes_up_to limit) ++ ds)
same-checks n limit d ds =
    check-cut (check 1 (leb 1 n)) _ _ (λ _.
    check-cut (check 2 (leb n max_samples)) _ _ (λ _.
    check-cut (check 3 (valid_limit limit)) _ _ (λ v.
    check-cut (check 13 (valid_len n d)) _ _ (λ _.
    let few = leb-true limit max_segments (both (leb 1 limit) (leb limit max_segments) v).1 in
    weights-first [] (sizes_up_to limit) limit ds ds (none-fit [] limit refl ∙ sym (sizes-pass limit few)) refl))))

path-without : (samples : List ℤ) (limit d : ℕ) (b : PathBuffers) → signal_path_of samples limit d (sizes_up_to limit) b ≡ signal_path_of samples limit d [] b
unfolding signal_path_of
path-without xs limit d b =
    let n = length xs in
    let ds = room_check (min limit n) (path_rooms b) (length b.scratch) ∷ [] in
    let left : List Model → SignalPathOutcome = λ path. signal_path_left path (place_count xs limit) b in
    by-checks-cut (λ (o : SignalPathOutcome). o) (input_checks n limit d (sizes_up_to limit) ++ ds) (input_checks n limit d [] ++ ds)
    (signal_path_refused b) (signal_path_refused b) _ _
    (same-checks n limit d ds) (λ c. refl) (λ _. ap left (same-path xs limit d))

split-without : (samples : List ℤ) (limit d p q : ℕ) (b : SplitBuffers) → split_of samples limit d (sizes_up_to limit) p q b ≡ split_of samples limit d [] p q b
unfolding split_of
split-without xs limit d p q b =
    let n = length xs in
    let ds = check 4 (valid_penalty p q) ∷ room_check (min limit n) (split_rooms b) (length b.path.scratch) ∷ [] in
    let left : List Model → SplitOutcome = λ path. split_at xs d path (place_count xs limit) p q b in
    by-checks-cut (λ (o : SplitOutcome). o) (input_checks n limit d (sizes_up_to limit) ++ ds) (input_checks n limit d [] ++ ds)
    (split_refused b) (split_refused b) _ _
    (same-checks n limit d ds) (λ c. refl) (λ _. ap left (same-path xs limit d))

sizes-for-none : SizesForNone
unfolding on_bytes items_to
sizes-for-none =
    record {
      signal-path = path-without;
      split = split-without;
      byte_signal_path = λ samples weights limit d b whole are.
          let xs = signeds.numbers samples in
          let lent = path_coding.numbers b in
          let same = ap (λ (ws : List ℕ). signal_path_of xs limit d ws lent) are ∙ path-without xs limit d lent in
          λ i. by_checks (check 11 (eqb (signeds.spare samples + whole i + path_coding.spare b) 0) ∷ []) (λ n. outcome (signal_path_answers.refused n) b)
          (encoded_over path_coding signal_path_answers b (signal_path_told (same i)));
      byte_split = λ samples weights limit d p q b whole are.
          let xs = signeds.numbers samples in
          let lent = split_coding.numbers b in
          let same = ap (λ (ws : List ℕ). split_of xs limit d ws p q lent) are ∙ split-without xs limit d p q lent in
          λ i. by_checks (check 11 (eqb (signeds.spare samples + whole i + split_coding.spare b) 0) ∷ []) (λ n. outcome (split_answers.refused n) b)
          (encoded_over split_coding split_answers b (split_told (same i)));
    }

pub sizes_as_weights : SizesAsWeights
sizes_as_weights = record { rules = own-weight-rules; path_calls = own-weight-calls; signal_calls = sizes-for-none }
