-- A build over byte strings reads one model more than there may be, and leaves its path in the lists that its models are read to.
use mathlib.Core.Path.{◌≡◌, ap, sym, ◌∙◌}
use mathlib.Core.List.{List, [], ◌∷◌}
use Prim.Native.Nat.{ℕ, ◌/◌, ◌≤◌}
use native.Mathlib.Omega.{arith}
use lib.ListN.{length}
use Rattle.coding.specs.Coding.{Outcome, outcome}
use Rattle.coding.specs.Models.{models_coding}
use Rattle.coding.specs.Inner.{ListsFit}
use Rattle.coding.proofs.Models.{models_cut}
use Rattle.layout.proofs.ItemLists.{length-items}
use Rattle.path.specs.Model.{Model, Lists, lengths}
use Rattle.path.specs.Append.{PathOutcome}
use Rattle.path.specs.Inner.{first_places}
use Rattle.path.specs.declared.PathResult.{PathResult}
use Rattle.build.specs.Build.{count_of}
use Rattle.build.specs.Inner.{within, build_with}
use Rattle.build.proofs.BuildCuts.{into-refused, into-accepted, into-fits}
use Rattle.byte_paths.specs.Paths.{path_told}
use Rattle.byte_paths.specs.Inner.{models_read}

-- A build, by a method that gives so long a path, in the lists that its models are read to, of which it reads one too many if there are
-- so many.
module _ (path : Lists → ℕ → List Model) (tests : Lists → ℕ → ℕ) (few : (a : Lists) (i : ℕ) → length (path a i) ≤ i) (x b : Lists) where
  abbrev pub call : Lists → Lists → Outcome PathResult Lists
  call given t = path_told (build_with path tests given t)

  abbrev read : Lists
  read = first_places models_read (models_coding.numbers x)

  abbrev lent : Lists
  lent = models_coding.numbers b

  -- It is made with the rooms of the buffers.
  pub build-read : (o : PathOutcome) (t : Lists) → t ≡ read
      → o ≡ within path tests t (length b.sizes / 2 ∷ length b.losses / 8 ∷ length b.weights / 2 ∷ []) → o ≡ within path tests read (lengths lent)
  build-read o t e is =
      let s = sym (length-items 2 b.sizes (length b.sizes / 2)) in
      let l = sym (length-items 8 b.losses (length b.losses / 8)) in
      let w = sym (length-items 2 b.weights (length b.weights / 2)) in
      is ∙ (λ i. within path tests (e i) (s i ∷ l i ∷ w i ∷ []))

  module _ (o : PathOutcome) (is : o ≡ within path tests read (lengths lent)) where
    pub build-refused : (o.refusal ≡ 0 → ⊥) → outcome (path_told o).answer lent ≡ call (models_coding.numbers x) lent
    unfolding build_with
    build-refused h = ap path_told (into-refused path tests few (models_coding.numbers x) lent models_read (omega arith) o is h)

    module _ (h : o.refusal ≡ 0) where
      pub build-accepted : outcome (path_told o).answer ((models_cut (count_of read)).rejoined lent o.buffers) ≡ call (models_coding.numbers x) lent
      unfolding build_with
      build-accepted = ap path_told (into-accepted path tests few (models_coding.numbers x) lent models_read (omega arith) o is h)

      -- Then the buffers have room for the lists.
      pub build-fits : ListsFit (count_of read) b (length read.sizes) (length read.losses) (length read.weights)
      build-fits =
          let f = into-fits path tests few (models_coding.numbers x) lent models_read (omega arith) o is h in
          record {
            sizes_fit = omega (arith, f.sizes, f.room.in_sizes, length-items 2 b.sizes (length b.sizes / 2));
            losses_fit = omega (arith, f.losses, f.room.in_losses, length-items 8 b.losses (length b.losses / 8));
            weights_fit = omega (arith, f.weights, f.room.in_weights, length-items 2 b.weights (length b.weights / 2));
          }
