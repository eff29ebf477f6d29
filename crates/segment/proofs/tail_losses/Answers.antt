-- `segment::tail_losses` meets its contract. The invariant: the sums are those of the samples from i on as far as `to`, these were read,
-- and the cells from i on have their losses.
use mathlib.Core.Path.{◌≡◌, ◌∙◌, ap, subst}
use mathlib.Core.Logic.{⊎_elim}
use mathlib.Core.List.{List}
use Prim.Native.Nat.{ℕ, suc, ◌+◌, ◌-◌, ◌≤◌, ◌<◌}
use native.Mathlib.Nat.{eq-or-lt_of_le}
use native.Mathlib.Omega.{arith}
use lib.IntN.{ℤ, pos}
use lib.ListN.{length, get_or, set, take}
use lib.Seq.{slice, length-take-le, drop-cons, get_or-take, get_or-set_same, get_or-set_other}
use mir.Syntax.{w16}
use mir.Facts.{to_z-of_z}
use Rattle.segment.specs.Segment.{Sample16, segment_loss}
use Rattle.segment.specs.Inner.{max_raised, max_square, raised, raised_square, sum_of, TailsFrom, SumsIn}
use Rattle.segment.proofs.Bounds.{fits-sample, slice_fits}
use Rattle.segment.proofs.Sums.{sumOf-slice}
use Rattle.segment.proofs.tail_losses.Invariants.{Sums, Tails}
use Rattle.segment.proofs.tail_losses.Goals as goal
use Rattle.segment.proofs.tail_losses.Goals.{After-raised_square-squares}

-- A sum over a segment with one sample more in front.
sum-front : (f : ℤ → ℕ) (xs : List ℤ) (i to : ℕ) → i < to → to ≤ length xs → sum_of f (slice i to xs) ≡ f (get_or xs i (pos 0)) + sum_of f (slice (suc i) to xs)
unfolding sum_of
sum-front f xs i to h u =
    ap (sum_of f) (drop-cons (take to xs) i (pos 0) (omega (arith, length-take-le to xs u)))
    ∙ ap (λ (x : ℤ). f x + sum_of f (slice (suc i) to xs)) (get_or-take to xs i (pos 0) h)

tails-start : {samples : List ℤ} {to : ℕ} {losses : List ℕ} → TailsFrom samples to losses → Tails samples to losses to 0 0
tails-start {samples} {to} p = record {
  sums = record {
    low = omega arith;
    fit = λ j l u. absurd (omega arith);
    sum_is = omega (arith, sumOf-slice raised to to samples (omega arith));
    squares_are = omega (arith, sumOf-slice raised_square to to samples (omega arith));
    sum_low = omega arith;
    squares-low = omega arith;
  };
  are = λ j l u. absurd (omega arith);
}

-- A turn reads one sample and adds it to the sums.
sums_next : {samples : List ℤ} {to i sum squares : ℕ} (v w : ℕ) → to ≤ length samples → 0 < i → Sample16 (get_or samples (i - 1) (pos 0))
    → v ≡ raised (get_or samples (i - 1) (pos 0)) → v ≤ max_raised → w ≡ raised_square (get_or samples (i - 1) (pos 0)) → w ≤ max_square
    → Sums samples to i sum squares → Sums samples to (i - 1) (sum + v) (squares + w)
sums_next {samples} {to} {i} v w within h sample e low f small s =
    let next : suc (i - 1) ≡ i = omega arith in
    let more : (g : ℤ → ℕ) → sum_of g (slice (i - 1) to samples) ≡ g (get_or samples (i - 1) (pos 0)) + sum_of g (slice i to samples) =
    λ g. sum-front g samples (i - 1) to (omega (arith, s.low)) within ∙ ap (λ (t : ℕ). g (get_or samples (i - 1) (pos 0)) + sum_of g (slice t to samples)) next in
    record {
      low = omega (arith, s.low);
      fit = λ j l u. ⊎_elim
          (λ q. subst (λ (t : ℕ). Sample16 (get_or samples t (pos 0))) q sample)
          (λ q. s.fit j (omega arith) u)
          (eq-or-lt_of_le {n = i - 1} {m = j} l);
      sum_is = omega (arith, more raised, s.sum_is);
      squares_are = omega (arith, more raised_square, s.squares_are);
      sum_low = omega (arith, s.sum_low);
      squares-low = omega (arith, s.squares-low);
    }

sums-in : {samples : List ℤ} {to i sum squares : ℕ} {losses : List ℕ} → TailsFrom samples to losses → i < to → Sums samples to i sum squares → SumsIn samples i to sum squares
sums-in {samples} {to} {i} p h s = record {
  segment = record { short = p.short; some = h; within = p.within };
  fit = slice_fits samples i to p.within s.fit;
  sum_is = s.sum_is;
  squares_are = s.squares_are;
}

tails-next : {samples : List ℤ} {to i sum squares sum' squares' : ℕ} {losses : List ℕ} → Tails samples to losses i sum squares → 0 < i → i ≤ length losses
    → Sums samples to (i - 1) sum' squares' → (loss : ℕ) → loss ≡ segment_loss (slice (i - 1) to samples) → Tails samples to (set losses (i - 1) loss) (i - 1) sum' squares'
tails-next {samples} {to} {i} {losses = losses} t h room s loss e = record {
  sums = s;
  are = λ j l u. ⊎_elim
      (λ q. subst (λ (m : ℕ). get_or (set losses (i - 1) loss) m 0 ≡ segment_loss (slice m to samples)) q (get_or-set_same losses (i - 1) loss 0 (omega arith) ∙ e))
      (λ q. get_or-set_other losses (i - 1) j loss 0 (λ z. omega arith) ∙ t.are j (omega arith) u)
      (eq-or-lt_of_le {n = i - 1} {m = j} l);
}

-- What a turn reads.
read : (c : After-raised_square-squares) → Sums c.args.samples.now c.args.to (c.loop-i.i - 1) (c.loop-i.sum + c.raise-sum.result) (c.loop-i.squares + c.raised_square-squares.result)
read c =
    let sample = c.raise-arg-1.given in
    let again = c.raised_square-arg-1.given in
    sums_next c.raise-sum.result c.raised_square-squares.result c.requires.within c.loop-i-test.true (fits-sample _ sample)
    (c.raise-sum.ensures.0 ∙ ap raised (to_z-of_z {w = w16} (record { sfits = sample }))) c.raise-sum.ensures.1
    (c.raised_square-squares.ensures.0 ∙ ap raised_square (to_z-of_z {w = w16} (record { sfits = again }))) c.raised_square-squares.ensures.1 c.loop-i.invariant.sums

pub loop-i-init : goal.loop-i-init
loop-i-init c = tails-start c.requires

pub segment_loss-requires : goal.segment_loss-requires
segment_loss-requires c = sums-in c.requires (omega arith) (read (goal.at.segment_loss-requires c).After-raised_square-squares)

pub loop-i-preserved : goal.loop-i-preserved
loop-i-preserved c = tails-next c.loop-i.invariant c.loop-i-test.true (omega arith) (read (goal.at.loop-i-preserved c).After-raised_square-squares) c.segment_loss.result c.segment_loss.ensures
