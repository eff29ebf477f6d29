-- A call looks only at the first items of each string. A cutting says of a coding how many these are, and what the functions that
-- read and write them leave; its laws lead from there to the numbers of whole strings. Cuttings multiply and take names as codings do.
use mathlib.Core.Path.{◌≡◌, refl, ap, sym, ◌∙◌}
use mathlib.Core.Bool.{Bool, true, false, cond}
use mathlib.Core.List.{◌++◌, map}
use Prim.Native.Nat.{ℕ, ◌+◌, ◌*◌, ◌/◌, min}
use native.Mathlib.Omega.{arith}
use lib.ListN.{length, take, drop, take-append-drop}
use Rattle.layout.specs.Items.{items_to, bytes_of, signed_of, unsigned_of}
use Rattle.coding.specs.Coding.{Coding, unsigneds, signeds, raw, ◌⊗◌, Names, named}
use Rattle.coding.proofs.Strings.{items-read, items-joined, signeds-read, signeds-joined}

pub record Cutting (C : Coding) : Type 1 where
  -- The numbers that are looked at, and such numbers with the rest after them.
  pub taken : C.Numbers → C.Numbers
  pub rejoined : C.Numbers → C.Numbers → C.Numbers
  -- Lists are as long as what is looked at.
  pub Fits : C.Strings → C.Numbers → Type 0
  -- What is read to such lists, and what strings hold at the end: where the call is accepted the lists are written over their front.
  pub read : C.Strings → C.Numbers → C.Numbers
  pub left : Bool → C.Strings → C.Numbers → C.Strings
  -- The laws.
  pub parts : (xs : C.Numbers) → xs ≡ rejoined xs (taken xs)
  pub reads : (b : C.Strings) (xs : C.Numbers) → Fits b xs → read b xs ≡ taken (C.numbers b)
  pub writes : (b : C.Strings) → C.Held b → C.spare b ≡ 0 → (xs : C.Numbers) → Fits b xs → left true b xs ≡ C.bytes (rejoined (C.numbers b) xs)
  pub stays : (b : C.Strings) → left false b (taken (C.numbers b)) ≡ b

-- At most c items of k bytes.
abbrev pub first_unsigneds : (k c : ℕ) → Cutting (unsigneds k)
first_unsigneds k c =
    record {
      taken = take c;
      rejoined = λ xs front. front ++ drop c xs;
      Fits = λ b xs. length xs ≡ min (length b / k) c;
      read = λ b xs. items_to k b (length xs);
      left = λ t b xs. cond t (bytes_of k xs ++ drop (k * length xs) b) b;
      parts = λ xs. sym (take-append-drop c xs);
      reads = λ b xs h. items-read k c b (length xs) h;
      writes = λ b held whole xs h. items-joined k c b held whole xs (length xs) h;
      stays = λ b. refl;
    }

-- At most c signed items.
abbrev pub first_signeds : (c : ℕ) → Cutting signeds
first_signeds c =
    record {
      taken = take c;
      rejoined = λ xs front. front ++ drop c xs;
      Fits = λ b xs. length xs ≡ min (length b / 2) c;
      read = λ b xs. map signed_of (items_to 2 b (length xs));
      left = λ t b xs. cond t (bytes_of 2 (map unsigned_of xs) ++ drop (2 * length xs) b) b;
      parts = λ xs. sym (take-append-drop c xs);
      reads = λ b xs h. signeds-read c b (length xs) h;
      writes = λ b held whole xs h. signeds-joined c b held whole xs (length xs) h;
      stays = λ b. refl;
    }

-- A string that is lent on as it is.
abbrev pub all_raw : Cutting raw
all_raw =
    record {
      taken = λ xs. xs;
      rejoined = λ xs front. front;
      Fits = λ b xs. Unit {0};
      read = λ b xs. b;
      left = λ t b xs. xs;
      parts = λ xs. refl;
      reads = λ b xs h. refl;
      writes = λ b held whole xs h. refl;
      stays = λ b. refl;
    }

-- Where nothing is left over of two together, nothing is of either.
pub nothing_left : (m n : ℕ) → m + n ≡ 0 → (m ≡ 0) × (n ≡ 0)
nothing_left m n h = (omega arith, omega arith)

-- Two things lent together.
infixr 30 ◌⊠◌
abbrev pub ◌⊠◌ : {C D : Coding} → Cutting C → Cutting D → Cutting (C ⊗ D)
◌⊠◌ {C} {D} P Q =
    record {
      taken = λ xs. (P.taken xs.0, Q.taken xs.1);
      rejoined = λ xs front. (P.rejoined xs.0 front.0, Q.rejoined xs.1 front.1);
      Fits = λ b xs. P.Fits b.0 xs.0 × Q.Fits b.1 xs.1;
      read = λ b xs. (P.read b.0 xs.0, Q.read b.1 xs.1);
      left = λ t b xs. (P.left t b.0 xs.0, Q.left t b.1 xs.1);
      parts = λ xs i. (P.parts xs.0 i, Q.parts xs.1 i);
      reads = λ b xs h i. (P.reads b.0 xs.0 h.0 i, Q.reads b.1 xs.1 h.1 i);
      writes = λ b held whole xs h.
          let none_left = nothing_left (C.spare b.0) (D.spare b.1) whole in
          λ i. (P.writes b.0 held.0 none_left.0 xs.0 h.0 i, Q.writes b.1 held.1 none_left.1 xs.1 h.1 i);
      stays = λ b i. (P.stays b.0 i, Q.stays b.1 i);
    }

-- The same with names.
abbrev pub named_cut : {S N : Type 0} {C : Coding} (f : Names S C.Strings) (g : Names N C.Numbers) → Cutting C → Cutting (named C f g)
named_cut {S} {N} {C} f g P =
    record {
      taken = λ xs. g.by_name (P.taken (g.in_order xs));
      rejoined = λ xs front. g.by_name (P.rejoined (g.in_order xs) (g.in_order front));
      Fits = λ b xs. P.Fits (f.in_order b) (g.in_order xs);
      read = λ b xs. g.by_name (P.read (f.in_order b) (g.in_order xs));
      left = λ t b xs. f.by_name (P.left t (f.in_order b) (g.in_order xs));
      parts = λ xs.
          sym (g.same_names xs)
          ∙ ap g.by_name (P.parts (g.in_order xs) ∙ ap (P.rejoined (g.in_order xs)) (sym (g.same_order (P.taken (g.in_order xs)))));
      reads = λ b xs h. ap g.by_name (P.reads (f.in_order b) (g.in_order xs) h ∙ ap P.taken (sym (g.same_order (C.numbers (f.in_order b)))));
      writes = λ b held whole xs h.
          let ys = C.numbers (f.in_order b) in
          let zs = g.in_order xs in
          ap f.by_name
          (P.writes (f.in_order b) held whole zs h
          ∙ ap (λ (y : C.Numbers). C.bytes (P.rejoined y zs)) (sym (g.same_order ys))
          ∙ ap C.bytes (sym (g.same_order (P.rejoined (g.in_order (g.by_name ys)) zs))));
      stays = λ b.
          let ys = C.numbers (f.in_order b) in
          ap (λ (y : C.Numbers). f.by_name (P.left false (f.in_order b) y))
          (g.same_order (P.taken (g.in_order (g.by_name ys))) ∙ ap P.taken (g.same_order ys))
          ∙ ap f.by_name (P.stays (f.in_order b))
          ∙ f.same_names b;
    }
