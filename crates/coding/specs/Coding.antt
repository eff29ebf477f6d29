-- A call over byte strings is the call on numbers: what it is lent is decoded, the call is made, and what it leaves is encoded. A
-- coding says how byte strings spell numbers, for one string or for several that are lent together. A string that ends inside an
-- item is refused under 11, before any other check; and whatever the number, a refused call leaves every byte.
use Rattle.std.specs.Prelude.{◌≡◌, cond, List, [], ◌∷◌, map, ℕ, ◌+◌, ◌%◌, eqb, ℤ, length}
use Rattle.layout.specs.Items.{Bytes, items_of, bytes_of, signed_of, unsigned_of}
use Rattle.path.specs.Refusal.{check, by_checks}

-- What a call leaves: its answer and its buffers.
pub record Outcome (A B : Type 0) : Type 0 where
  pub answer : A
  pub buffers : B

-- An answer with the buffers.
abbrev pub outcome : {A B : Type 0} → A → B → Outcome A B
outcome a b = record { answer = a; buffers = b }

-- The answers of a call: the refusal number that an answer has, and the answer of a call that is refused under a number.
pub record Answers (A : Type 0) : Type 0 where
  pub number : A → ℕ
  pub refused : ℕ → A
  pub numbered : (n : ℕ) → number (refused n) ≡ n

-- What byte strings stand for. `Held` says that they hold bytes, `spare` counts the bytes that are left over after whole items,
-- `numbers` are those that the items spell, and `bytes` spells numbers.
pub record Coding : Type 1 where
  pub Strings : Type 0
  pub Numbers : Type 0
  pub Held : Strings → Type 0
  pub spare : Strings → ℕ
  pub numbers : Strings → Numbers
  pub bytes : Numbers → Strings

-- One string with numbers of k bytes each, low byte first.
abbrev pub unsigneds : ℕ → Coding
unsigneds k =
    record {
      Strings = List ℕ;
      Numbers = List ℕ;
      Held = Bytes;
      spare = λ b. length b % k;
      numbers = items_of k;
      bytes = bytes_of k;
    }

-- One string with numbers of two bytes each, low byte first, in two's complement.
abbrev pub signeds : Coding
signeds =
    record {
      Strings = List ℕ;
      Numbers = List ℤ;
      Held = Bytes;
      spare = λ b. length b % 2;
      numbers = λ b. map signed_of (items_of 2 b);
      bytes = λ xs. bytes_of 2 (map unsigned_of xs);
    }

-- One string that the call on numbers takes as it is.
abbrev pub raw : Coding
raw =
    record {
      Strings = List ℕ;
      Numbers = List ℕ;
      Held = λ b. Unit {0};
      spare = λ b. 0;
      numbers = λ b. b;
      bytes = λ b. b;
    }

-- No string: a call that only reads, or that reads nothing but its buffers.
abbrev pub none : Coding
none =
    record {
      Strings = Unit {0};
      Numbers = Unit {0};
      Held = λ b. Unit {0};
      spare = λ b. 0;
      numbers = λ b. b;
      bytes = λ b. b;
    }

-- What two codings code, lent together.
infixr 30 ◌⊗◌
abbrev pub ◌⊗◌ : Coding → Coding → Coding
C ⊗ D =
    record {
      Strings = C.Strings × D.Strings;
      Numbers = C.Numbers × D.Numbers;
      Held = λ b. C.Held b.0 × D.Held b.1;
      spare = λ b. C.spare b.0 + D.spare b.1;
      numbers = λ b. (C.numbers b.0, D.numbers b.1);
      bytes = λ xs. (C.bytes xs.0, D.bytes xs.1);
    }

-- Names for the places of a tuple: a record's fields in their order, and the record of such a tuple.
pub record Names (A B : Type 0) : Type 0 where
  pub in_order : A → B
  pub by_name : B → A
  pub same_order : (b : B) → in_order (by_name b) ≡ b
  pub same_names : (a : A) → by_name (in_order a) ≡ a

-- The same coding with names for its strings and for its lists of numbers.
abbrev pub named : {S N : Type 0} (C : Coding) → Names S C.Strings → Names N C.Numbers → Coding
named {S} {N} C f g =
    record {
      Strings = S;
      Numbers = N;
      Held = λ b. C.Held (f.in_order b);
      spare = λ b. C.spare (f.in_order b);
      numbers = λ b. g.by_name (C.numbers (f.in_order b));
      bytes = λ xs. f.by_name (C.bytes (g.in_order xs));
    }

-- What a call on the numbers of strings leaves of these: the bytes of its buffers, or where it is refused the strings as they were.
abbrev pub encoded_over : {A : Type 0} (D : Coding) → Answers A → D.Strings → Outcome A D.Numbers → Outcome A D.Strings
encoded_over D a b o = outcome o.answer (cond (eqb (a.number o.answer) 0) (D.bytes o.buffers) b)

-- A call over byte strings: over what it only reads, coded by C, and over its buffers, coded by D.
unfoldable pub on_bytes : {A : Type 0} (C D : Coding) → Answers A → (C.Numbers → D.Numbers → Outcome A D.Numbers) → C.Strings → D.Strings
    → Outcome A D.Strings
on_bytes C D a call s b =
    by_checks (check 11 (eqb (C.spare s + D.spare b) 0) ∷ []) (λ n. outcome (a.refused n) b)
    (encoded_over D a b (call (C.numbers s) (D.numbers b)))
