-- Which numbers fit the items of a coding. The numbers of bytes fit, what fits is got back from its bytes, and whole items of bytes are
-- got back from their numbers. Codings multiply and take names, and what fits follows them.
use mathlib.Core.Path.{◌≡◌, refl, ap, sym, subst, ◌∙◌}
use mathlib.Core.List.{List, [], ◌∷◌, map}
use Prim.Native.Nat.{ℕ, ◌+◌, ◌/◌, ◌%◌, ◌^◌, ◌<◌}
use native.Mathlib.Nat.{mul-div_right, mul-mod_right}
use native.Mathlib.Omega.{arith}
use lib.IntN.{ℤ}
use lib.ListN.{length}
use lib.Signed.{mag}
use Rattle.layout.specs.Items.{Bytes, items_to, items_of, bytes_of, signed_of, unsigned_of}
use Rattle.layout.proofs.ItemLists.{length-bytes, items-low}
use Rattle.layout.proofs.ItemLists as items
use Rattle.layout.proofs.Signs.{mag-signed, unsigned_small, signed-unsigned}
use Rattle.coding.specs.Coding.{Coding, unsigneds, signeds, raw, ◌⊗◌, Names, named}
use Rattle.coding.proofs.Strings.{items_back, signeds-back}
use Rattle.coding.proofs.Cutting.{nothing_left}
use Rattle.coding.proofs.Small.{Every, every-at, Small, below-small}

pub record Fitting (D : Coding) : Type 1 where
  pub Fit : D.Numbers → Type 0
  pub held-fit : (b : D.Strings) → D.Held b → Fit (D.numbers b)
  pub fit-back : (xs : D.Numbers) → Fit xs → D.numbers (D.bytes xs) ≡ xs
  pub held_back : (b : D.Strings) → D.Held b → D.spare b ≡ 0 → D.bytes (D.numbers b) ≡ b
  pub none-spare : (xs : D.Numbers) → D.spare (D.bytes xs) ≡ 0

-- Numbers of k bytes.
module _ (k : ℕ) (some : 0 < k) where
  pub numbers_fit : (b : List ℕ) → Bytes b → Small (256 ^ k) (items_of k b)
  numbers_fit b held = below-small (256 ^ k) (items_of k b) (items-low k b (length b / k) held)

  pub numbers-back : (xs : List ℕ) → Small (256 ^ k) xs → items_of k (bytes_of k xs) ≡ xs
  numbers-back xs f =
      ap (λ (n : ℕ). items_to k (bytes_of k xs) (n / k)) (length-bytes k xs)
      ∙ ap (items_to k (bytes_of k xs)) (mul-div_right (length xs) some)
      ∙ items.items_back k xs (every-at (λ (x : ℕ). x < 256 ^ k) 0 xs f)

  pub whole_numbers : (xs : List ℕ) → length (bytes_of k xs) % k ≡ 0
  whole_numbers xs = ap (λ (n : ℕ). n % k) (length-bytes k xs) ∙ mul-mod_right k (length xs)

  abbrev pub unsignedsFit : Fitting (unsigneds k)
  unsignedsFit =
      record {
        Fit = Small (256 ^ k);
        held-fit = numbers_fit;
        fit-back = numbers-back;
        held_back = items_back k;
        none-spare = whole_numbers;
      }

-- A whole number fits two bytes with a sign.
abbrev pub FitsSigned : ℤ → Type 0
FitsSigned z = mag z < 32768

pub signed_fit : (xs : List ℕ) → Small (256 ^ 2) xs → Every FitsSigned (map signed_of xs)
signed_fit [] f = tt
signed_fit (x ∷ xs) f = (mag-signed x f.0, signed_fit xs f.1)

pub unsigned_fit : (zs : List ℤ) → Every FitsSigned zs → Small (256 ^ 2) (map unsigned_of zs)
unsigned_fit [] f = tt
unsigned_fit (z ∷ zs) f = (unsigned_small z f.0, unsigned_fit zs f.1)

pub unsigned_back : (zs : List ℤ) → Every FitsSigned zs → map signed_of (map unsigned_of zs) ≡ zs
unsigned_back [] f = refl
unsigned_back (z ∷ zs) f = λ i. signed-unsigned z f.0 i ∷ unsigned_back zs f.1 i

-- Signed numbers.
abbrev pub signeds_fit : Fitting signeds
signeds_fit =
    record {
      Fit = Every FitsSigned;
      held-fit = λ b held. signed_fit (items_of 2 b) (numbers_fit 2 (omega arith) b held);
      fit-back = λ zs f. ap (map signed_of) (numbers-back 2 (omega arith) (map unsigned_of zs) (unsigned_fit zs f)) ∙ unsigned_back zs f;
      held_back = signeds-back;
      none-spare = λ zs. whole_numbers 2 (omega arith) (map unsigned_of zs);
    }

-- Bytes as they are.
abbrev pub raw_fit : Fitting raw
raw_fit = record { Fit = λ xs. Unit {0}; held-fit = λ b f. f; fit-back = λ xs f. refl; held_back = λ b f h. refl; none-spare = λ xs. refl }

-- Two together.
infixr 30 ◌⊞◌
abbrev pub ◌⊞◌ : {C D : Coding} → Fitting C → Fitting D → Fitting (C ⊗ D)
◌⊞◌ {C} {D} F G =
    record {
      Fit = λ xs. F.Fit xs.0 × G.Fit xs.1;
      held-fit = λ b f. (F.held-fit b.0 f.0, G.held-fit b.1 f.1);
      fit-back = λ xs f i. (F.fit-back xs.0 f.0 i, G.fit-back xs.1 f.1 i);
      held_back = λ b f h.
          let none_left = nothing_left (C.spare b.0) (D.spare b.1) h in
          λ i. (F.held_back b.0 f.0 none_left.0 i, G.held_back b.1 f.1 none_left.1 i);
      none-spare = λ xs. (λ i. F.none-spare xs.0 i + G.none-spare xs.1 i);
    }

-- The same with names.
abbrev pub named_fit : {S N : Type 0} {C : Coding} (f : Names S C.Strings) (g : Names N C.Numbers) → Fitting C → Fitting (named C f g)
named_fit {S} {N} {C} f g F =
    record {
      Fit = λ xs. F.Fit (g.in_order xs);
      held-fit = λ b held. subst F.Fit (sym (g.same_order (C.numbers (f.in_order b)))) (F.held-fit (f.in_order b) held);
      fit-back = λ xs h.
          ap (λ (b : C.Strings). g.by_name (C.numbers b)) (f.same_order (C.bytes (g.in_order xs)))
          ∙ ap g.by_name (F.fit-back (g.in_order xs) h)
          ∙ g.same_names xs;
      held_back = λ b held h.
          ap (λ (xs : C.Numbers). f.by_name (C.bytes xs)) (g.same_order (C.numbers (f.in_order b)))
          ∙ ap f.by_name (F.held_back (f.in_order b) held h)
          ∙ f.same_names b;
      none-spare = λ xs. ap C.spare (f.same_order (C.bytes (g.in_order xs))) ∙ F.none-spare (g.in_order xs);
    }
