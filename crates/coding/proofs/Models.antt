-- The three byte strings of models or a path, together: their cutting, and what a call owes of them that reads or writes them.
use mathlib.Core.Path.{◌≡◌, sym, ◌∙◌}
use Prim.Native.Nat.{ℕ, ◌/◌, ◌≤◌, min}
use native.Mathlib.Omega.{arith}
use lib.ListN.{length, get_or, take, replicate}
use mir.Syntax.{w8}
use mir.Val.{Fits}
use Rattle.path.specs.Model.{Lists, lists}
use Rattle.coding.specs.Models.{list_names, models_coding}
use Rattle.coding.specs.Inner.{ListsFit, HoldsModels}
use Rattle.coding.proofs.Strings.{bytes-held, items_back, front_fits}
use Rattle.coding.proofs.Cutting.{Cutting, first_unsigneds, ◌⊠◌, named_cut}

-- The first n models.
abbrev pub models_cut : ℕ → Cutting models_coding
models_cut n = named_cut list_names list_names (first_unsigneds 2 n ⊠ first_unsigneds 8 n ⊠ first_unsigneds 2 n)

module _ (x : Lists) where
  -- What lent slices are known to hold are bytes.
  pub models-held : ((i : ℕ) → Fits w8 (get_or x.sizes i 0)) → ((i : ℕ) → Fits w8 (get_or x.losses i 0)) → ((i : ℕ) → Fits w8 (get_or x.weights i 0))
      → models_coding.Held x
  models-held f g h = (bytes-held x.sizes f, (bytes-held x.losses g, bytes-held x.weights h))

  -- Whole items give their bytes back.
  pub models-back : models_coding.Held x → models_coding.spare x ≡ 0 → x ≡ models_coding.bytes (models_coding.numbers x)
  models-back held whole =
      let s = items_back 2 x.sizes held.0 (omega arith) in
      let l = items_back 8 x.losses held.1.0 (omega arith) in
      let w = items_back 2 x.weights held.1.1 (omega arith) in
      λ i. lists (sym s i) (sym l i) (sym w i)

  -- Lists that fit, and have stayed as long as they were.
  module _ {n a b c : ℕ} (fit : ListsFit n x a b c) where
    pub models-fit : (t : Lists) → length t.sizes ≡ a → length t.losses ≡ b → length t.weights ≡ c → (models_cut n).Fits x t
    models-fit t e f g = (e ∙ fit.sizes_fit, (f ∙ fit.losses_fit, g ∙ fit.weights_fit))

    pub models-hold : {s l w : ℕ} → s ≡ a → l ≡ b → w ≡ c → HoldsModels s l w x.sizes x.losses x.weights
    models-hold e f g =
        record {
          sizes_have = omega (arith, fit.sizes_fit);
          losses_have = omega (arith, fit.losses_fit);
          weights_have = omega (arith, fit.weights_fit);
        }

  -- Fronts of three arrays with m places fit where they are as long as there are items to look at, n at most of each.
  pub fronts-fit : (m n : ℕ) {a b c k : ℕ} → a ≡ min (length x.sizes / 2) k → b ≡ min (length x.losses / 8) k → c ≡ min (length x.weights / 2) k
      → k ≡ n → n ≤ m
      → ListsFit n x (length (take a (replicate {A = ℕ} m 0))) (length (take b (replicate {A = ℕ} m 0))) (length (take c (replicate {A = ℕ} m 0)))
  fronts-fit m n e f g same few =
      record {
        sizes_fit = front_fits {A = ℕ} 0 m _ n e same few;
        losses_fit = front_fits {A = ℕ} 0 m _ n f same few;
        weights_fit = front_fits {A = ℕ} 0 m _ n g same few;
      }
