-- The models that are not passed over, as they move to the front one after the other. Such a model passes its checks against those
-- before it, because they end in the last entry of the path.
use mathlib.Core.Path.{◌≡◌, refl, sym, ◌∙◌}
use mathlib.Core.Bool.{Bool, true, false, cond}
use mathlib.Core.List.{List, ◌∷◌}
use Prim.Native.Nat.{ℕ, zero, suc, ◌+◌, ◌<◌}
use native.Mathlib.Numerals.{add-one}
use native.Mathlib.Omega.{arith}
use lib.ListN.{length, take}
use Rattle.path.specs.Model.{Model, Lists, model_at, path_of}
use Rattle.path.specs.Update.{passed_over, extended, tried}
use Rattle.path.specs.Refusal.{refusal_of}
use Rattle.path.specs.Inner.{Held}
use Rattle.path.proofs.Order.{places-fewer, Passes, model-passes, model-accepted, same-checks, same-passed-over}
use Rattle.path.proofs.Held.{set_model, held_none, held-skip, held-put}
use Rattle.build.specs.Build.{built, list_checks}
use Rattle.build.specs.Inner.{Buildable, Fillable}
use Rattle.build.proofs.Lists.{model-ready}
use Rattle.build.proofs.Steps.{still-model}

module _ (a : Lists) where
  -- Those of the first i models.
  abbrev pub triedTo : ℕ → List Model
  triedTo i = tried (path_of a i)

  -- They end in the last entry of the path.
  same-last : (i : ℕ) → take 1 (built a i) ≡ take 1 (triedTo i)
  unfolding built path_of tried
  same-last zero = refl
  same-last (suc i) =
      rw (← same-passed-over (built a i) (triedTo i) (same-last i) (model_at a i)) (by-test (passed_over (built a i) (model_at a i)) (same-last i))
    where
      by-test : (b : Bool) → take 1 (built a i) ≡ take 1 (triedTo i) → take 1 (cond b (built a i) (extended (built a i) (model_at a i))) ≡ take 1 (cond b (triedTo i) (model_at a i ∷ triedTo i))
      by-test true h = h
      by-test false h = refl

  -- A model of a list without a bad one passes against them.
  tried-passes : (n i : ℕ) → refusal_of (list_checks a 0 n) ≡ 0 → i < n → Passes (triedTo i) (model_at a i)
  tried-passes n i h p =
      model-passes (triedTo i) (model_at a i)
      (sym (same-checks (built a i) (triedTo i) (same-last i) (model_at a i)) ∙ model-accepted (built a i) (model_at a i) (model-ready a n i h p).1)

  pub dropped-none : (t : Lists) → Held (triedTo 0) t t 0 0
  unfolding path_of tried
  dropped-none t = held_none t

  -- One more model is read.
  module _ (t₀ t : Lists) (n i : ℕ) (h : Held (triedTo i) t₀ t n i) (m : Model) (is : m ≡ model_at a i) where
    judged : (b : Bool) → passed_over (path_of t n) m ≡ b → passed_over (triedTo i) (model_at a i) ≡ b
    judged b f = (λ j. passed_over (sym h.is j) (sym is j)) ∙ f

    -- It is passed over.
    pub dropped-one : passed_over (path_of t n) m ≡ true → Held (triedTo (i + 1)) t₀ t n (i + 1)
    unfolding path_of tried
    dropped-one f = rw (add-one i, judged true f) (rw (add-one i) at (held-skip (triedTo i) t₀ t n i h))

    -- It moves to the front.
    pub kept-one : {all : ℕ} → Buildable a t₀ all → i < all → passed_over (path_of t n) m ≡ false → Held (triedTo (i + 1)) t₀ (set_model t n m) (n + 1) (i + 1)
    unfolding path_of tried
    kept-one {all} ok turn f =
        let o = judged false f in
        let put = held-put (triedTo i) t₀ t n i h (places-fewer t₀ all (i + 1) ok.fits (omega arith)) (model_at a i) (tried-passes all i ok.good turn) o in
        rw (is, add-one i, o) (rw (add-one i) at put)

-- One turn in the lists that the models fill: that of place i is looked at where it stands.
module _ {t₀ t : Lists} {n i : ℕ} (h : Held (triedTo t₀ i) t₀ t n i) {m : Model} (here : m ≡ model_at t i) where
  is-next : m ≡ model_at t₀ i
  is-next = here ∙ still-model (triedTo t₀ i) t₀ t n i h

  pub turn-dropped : passed_over (path_of t n) m ≡ true → Held (triedTo t₀ (i + 1)) t₀ t n (i + 1)
  turn-dropped = dropped-one t₀ t₀ t n i h m is-next

  pub turn-kept : Fillable t₀ → i < length t₀.sizes → passed_over (path_of t n) m ≡ false → Held (triedTo t₀ (i + 1)) t₀ (set_model t n m) (n + 1) (i + 1)
  turn-kept may turn = kept-one t₀ t₀ t n i h m is-next may.ok turn
