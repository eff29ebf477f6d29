-- An entry stored in place, with entries of zeros after it: what is written to a part of the entries is written to the same part of
-- each of their three lists.
use mathlib.Core.Path.{◌≡◌, refl, sym, ap, ◌∙◌}
use mathlib.Core.List.{List, [], ◌∷◌, ◌++◌, map}
use Rattle.path.specs.Buffer.{overwritten_to}
use Prim.Native.Nat.{ℕ, zero, suc, ◌+◌, ◌-◌, ◌≤◌, ◌<◌}
use native.Mathlib.Omega.{arith}
use lib.ListN.{length, set, take, drop, replicate, length-map}
use Rattle.std.proofs.lemmas.List.{take-map, drop-map, map-set, map-append}
use borrow.Rule.Slice.PartMut.{put_mid}
use Rattle.path.specs.Model.{model, lists}
use Rattle.path.proofs.Buffers.{store-clears, store-alone}
use Rattle.models.specs.Entries.{lists_in}
use Rattle.models.specs.Inner.{no_entry, size_of, loss_of, weight_of, stored_to}
use Rattle.path.specs.declared.storage.Entry.{Entry}

-- A field of the entries, which is 0 where there is none.
module _ (f : Entry → ℕ) (none : f no_entry ≡ 0) where
  zeros : (n : ℕ) → map f (replicate n no_entry) ≡ replicate n 0
  zeros zero = refl
  zeros (suc n) = λ i. none i ∷ zeros n i

  part : (a k : ℕ) (xs zs : List Entry) → map f (put_mid a k xs zs) ≡ put_mid a k (map f xs) (map f zs)
  part a k xs zs =
      map-append f (take a xs) (zs ++ drop k (drop a xs))
      ∙ ap (λ (l : List ℕ). map f (take a xs) ++ l) (map-append f zs (drop k (drop a xs)))
      ∙ (λ i. sym (take-map f a xs) i ++ (map f zs ++ sym (drop-map f k (drop a xs)) i))
      ∙ ap (λ (l : List ℕ). take a (map f xs) ++ (map f zs ++ drop k l)) (sym (drop-map f a xs))

  module _ (ys : List Entry) (c n : ℕ) (e : Entry) (there : c < length ys) where
    clears : n ≤ length ys → c + 1 < n
        → map f (put_mid (c + 1) (n - (c + 1)) (set ys c e) (replicate (n - (c + 1)) no_entry)) ≡ overwritten_to (take c (map f ys) ++ (f e ∷ [])) n (map f ys)
    clears h p =
        part (c + 1) (n - (c + 1)) (set ys c e) (replicate (n - (c + 1)) no_entry)
        ∙ (λ i. put_mid (c + 1) (n - (c + 1)) (map-set f ys c e i) (zeros (n - (c + 1)) i))
        ∙ store-clears (map f ys) c n (f e) (omega (arith, length-map ys f)) (omega (arith, length-map ys f)) p

    alone : n ≤ c + 1 → map f (set ys c e) ≡ overwritten_to (take c (map f ys) ++ (f e ∷ [])) n (map f ys)
    alone p = map-set f ys c e ∙ store-alone (map f ys) c n (f e) (omega (arith, length-map ys f)) p

-- The three lists of the entries, with places to clear and with none.
module _ (ys : List Entry) (c n : ℕ) (e : Entry) (there : c < length ys) where
  pub lists-clears : n ≤ length ys → c + 1 < n
      → lists_in (put_mid (c + 1) (n - (c + 1)) (set ys c e) (replicate (n - (c + 1)) no_entry)) ≡ stored_to c n (model e.size e.loss e.weight) (lists_in ys)
  lists-clears h p =
      λ i. lists (clears size_of refl ys c n e there h p i) (clears loss_of refl ys c n e there h p i) (clears weight_of refl ys c n e there h p i)

  pub lists-alone : n ≤ c + 1 → lists_in (set ys c e) ≡ stored_to c n (model e.size e.loss e.weight) (lists_in ys)
  lists-alone p =
      λ i. lists (alone size_of refl ys c n e there p i) (alone loss_of refl ys c n e there p i) (alone weight_of refl ys c n e there p i)
