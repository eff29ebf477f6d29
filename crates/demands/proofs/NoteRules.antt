-- A line is a note where, and only where, it keeps the rule that counts brackets.
use mathlib.Core.Path.{◌≡◌, refl, sym, ap, ◌∙◌}
use mathlib.Core.Bool.{Bool, true, false, cond, ◌&&◌, ◌||◌, false≢true, and-eq-true_iff}
use mathlib.Core.Logic.{◌⊎◌, inl, inr, ⊎_elim}
use mathlib.Core.List.{List, [], ◌∷◌, ◌++◌}
use Prim.Native.Nat.{ℕ, zero, suc, ◌+◌, ◌-◌, ◌≤◌, ◌<◌}
use native.Mathlib.Numerals.{unary_clauses}
use native.Mathlib.Omega.{arith}
use lib.Dec.{ltb, leb, eqb}
use lib.ListN.{length, get_or, take, get_or-eq_default}
use lib.Seq.{take-suc, take-take, get_or-take}
use borrow.Author.Tests.{le-leb, leb-true, lt-ltb, ltb-true, eqb-true}
use Rattle.path.proofs.Cuts.{le-or-lt}
use Rattle.text.specs.Text.{bytes, same}
use Rattle.text.specs.Notes.{closes, begins, is_note, max_depth}
use Rattle.text.proofs.Parts.{same-eq}
use Rattle.demands.specs.NoteRules.{times, opened, closed, KeepsNotes, NoteRuleClaim}

-- Every byte of a text is one of 32 to 126.
abbrev Printable : List ℕ → Type 0
Printable s = (i : ℕ) → i < length s → (32 ≤ get_or s i 0) × (get_or s i 0 ≤ 126)

-- Such a byte in front of such a text.
printable-more : (b : ℕ) (s : List ℕ) → 32 ≤ b → b ≤ 126 → Printable s → Printable (b ∷ s)
printable-more b s l u h zero k = (l, u)
printable-more b s l u h (suc i) k = h i (omega arith)

-- The rest of a note that goes on with d brackets open.
record Rest (d : ℕ) (s : List ℕ) : Type 0 where
  printable : Printable s
  within : (i : ℕ) → i < length s → (closed (take i s) < d + opened (take i s)) × (d + opened (take i s) ≤ closed (take i s) + 8)
  balanced : d + opened s ≡ closed s

-- A byte in front of the rest of a note, with d brackets open before it and e behind it.
module _ (d e b : ℕ) (s : List ℕ) (h : d + cond (eqb b 40) 1 0 ≡ e + cond (eqb b 41) 1 0) where
  longer : 1 ≤ d → d ≤ 8 → 32 ≤ b → b ≤ 126 → Rest e s → Rest d (b ∷ s)
  unfolding times
  longer l u p q r = record { printable = printable-more b s p q r.printable; within = counts; balanced = omega (arith, r.balanced) }
    where
      counts : (i : ℕ) → i < suc (length s)
          → (closed (take i (b ∷ s)) < d + opened (take i (b ∷ s))) × (d + opened (take i (b ∷ s)) ≤ closed (take i (b ∷ s)) + 8)
      counts zero k = (omega arith, omega arith)
      counts (suc i) k = let w = r.within i (omega arith) in (omega arith, omega arith)

  shorter : Rest d (b ∷ s) → Rest e s
  unfolding times
  shorter r = record {
    printable = λ i k. r.printable (suc i) (omega arith);
    within = λ i k. let w = r.within (suc i) (omega arith) in (omega arith, omega arith);
    balanced = omega (arith, r.balanced);
  }

-- Brackets that close are such a rest.
closes-rest : (d : ℕ) (s : List ℕ) → d ≤ 8 → closes d s ≡ true → Rest d s
unfolding closes times
closes-rest zero [] u h = record { printable = λ i k. absurd (omega arith); within = λ i k. absurd (omega arith); balanced = refl }
closes-rest zero (b ∷ s) u h = absurd (false≢true h)
closes-rest (suc d) [] u h = absurd (false≢true h)
closes-rest (suc d) (b ∷ s) u h =
    by_tests (eqb b 40) (eqb b 41) (eqb-true b 40) (eqb-true b 41) (λ e. longer (suc d) e b s) h (λ e. closes-rest e s)
  where
    by_tests : (t v : Bool) → (t ≡ true → b ≡ 40) → (v ≡ true → b ≡ 41)
        → ((e : ℕ) → suc d + cond t 1 0 ≡ e + cond v 1 0 → 1 ≤ suc d → suc d ≤ 8 → 32 ≤ b → b ≤ 126 → Rest e s → Rest (suc d) (b ∷ s))
        → cond t (ltb (suc d) max_depth && closes (suc (suc d)) s) (cond v (closes d s) (leb 32 b && leb b 126 && closes (suc d) s)) ≡ true
        → ((e : ℕ) → e ≤ 8 → closes e s ≡ true → Rest e s) → Rest (suc d) (b ∷ s)
    by_tests true true e f g h r = absurd (omega (arith, e refl, f refl))
    by_tests true false e f g h r =
        let p = (and-eq-true_iff (ltb (suc d) max_depth) (closes (suc (suc d)) s)).0 h in
        let x = e refl in
        g (suc (suc d)) (omega arith) (omega arith) u (omega arith) (omega arith)
        (r (suc (suc d)) (omega (arith, ltb-true (suc d) 8 p.0)) p.1)
    by_tests false true e f g h r =
        let x = f refl in
        g d (omega arith) (omega arith) u (omega arith) (omega arith) (r d (omega arith) h)
    by_tests false false e f g h r =
        let p = (and-eq-true_iff (leb 32 b && leb b 126) (closes (suc d) s)).0 h in
        let q = (and-eq-true_iff (leb 32 b) (leb b 126)).0 p.0 in
        g (suc d) refl (omega arith) u (leb-true 32 b q.0) (leb-true b 126 q.1) (r (suc d) u p.1)

-- At most 8 brackets are open before such a rest.
at-most-eight : (d : ℕ) (s : List ℕ) → Rest d s → d ≤ 8
unfolding times
at-most-eight d [] r = omega (arith, r.balanced)
at-most-eight d (b ∷ s) r = omega (arith, (r.within 0 (omega arith)).1)

-- In such a rest the brackets close.
rest-closes : (d : ℕ) (s : List ℕ) → Rest d s → closes d s ≡ true
unfolding closes times
rest-closes zero [] r = refl
rest-closes zero (b ∷ s) r = absurd (omega (arith, (r.within 0 (omega arith)).0))
rest-closes (suc d) [] r = absurd (omega (arith, r.balanced))
rest-closes (suc d) (b ∷ s) r =
    let p = r.printable 0 (omega arith) in
    by_tests (eqb b 40) (eqb b 41) (eqb-true b 40) (eqb-true b 41) (le-leb 32 b p.0) (le-leb b 126 p.1) (λ e k. shorter (suc d) e b s k r)
    (λ e. rest-closes e s)
  where
    by_tests : (t v : Bool) → (t ≡ true → b ≡ 40) → (v ≡ true → b ≡ 41) → leb 32 b ≡ true → leb b 126 ≡ true
        → ((e : ℕ) → suc d + cond t 1 0 ≡ e + cond v 1 0 → Rest e s)
        → ((e : ℕ) → Rest e s → closes e s ≡ true)
        → cond t (ltb (suc d) max_depth && closes (suc (suc d)) s) (cond v (closes d s) (leb 32 b && leb b 126 && closes (suc d) s)) ≡ true
    by_tests true true e f p q g c = absurd (omega (arith, e refl, f refl))
    by_tests true false e f p q g c =
        let k = g (suc (suc d)) (omega arith) in
        rw (lt-ltb (suc d) 8 (at-most-eight (suc (suc d)) s k), c (suc (suc d)) k) refl
    by_tests false true e f p q g c = c d (g d (omega arith))
    by_tests false false e f p q g c = rw (p, q, c (suc d) (g (suc d) refl)) refl

-- Five bytes and the next one.
six-bytes : (line five : List ℕ) (b : ℕ) → take 5 line ≡ five → get_or line 5 0 ≡ b → 1 ≤ b → take 6 line ≡ five ++ (b ∷ [])
six-bytes line five b h e l =
    ⊎_elim (λ k. absurd (omega (arith, get_or-eq_default line 0 {n = 5} k))) (λ k. take-suc line 5 0 k ∙ rw (h, e) refl)
    (le-or-lt (length line) 5)

-- The first byte of a note opens one bracket.
first-bracket : (b : ℕ) → b ≡ 40 → 1 + cond (eqb b 41) 1 0 ≡ cond (eqb b 40) 1 0
first-bracket b e = rw e refl

-- How often a byte stands in the first bytes of a text, by its first one.
times-first : (byte b : ℕ) (s : List ℕ) (i : ℕ) → 1 ≤ i → cond (eqb b byte) 1 0 + times byte (take (i - 1) s) ≡ times byte (take i (b ∷ s))
unfolding times
times-first byte b s zero l = absurd (omega arith)
times-first byte b s (suc i) l = simp unary_clauses

-- A line that begins as a note keeps the rule where what follows its bracket is such a rest.
rest-keeps : (b : ℕ) (s : List ℕ) → b ≡ 40 → (take 6 (b ∷ s) ≡ bytes "(note ") ⊎ (take 6 (b ∷ s) ≡ bytes "(note)") → Rest 1 s → KeepsNotes (b ∷ s)
unfolding times
rest-keeps b s e begun r =
    let f = first-bracket b e in
    record {
      begins = begun;
      printable = printable-more b s (omega arith) (omega arith) r.printable;
      within = λ i l k.
          let w = r.within (i - 1) (omega arith) in
          let o = times-first 40 b s i l in
          let c = times-first 41 b s i l in
          (omega arith, omega arith);
      balanced = omega (arith, r.balanced);
    }

-- What follows the first bracket of a line that keeps the rule is such a rest.
keeps-rest : (b : ℕ) (s : List ℕ) → b ≡ 40 → KeepsNotes (b ∷ s) → Rest 1 s
unfolding times
keeps-rest b s e k =
    let f = first-bracket b e in
    record {
      printable = λ i l. k.printable (suc i) (omega arith);
      within = λ i l. let w = k.within (suc i) (omega arith) (omega arith) in (omega arith, omega arith);
      balanced = omega (arith, k.balanced);
    }

-- A note keeps the rule.
note-keeps : (line : List ℕ) → is_note line ≡ true → KeepsNotes line
unfolding is_note begins same bytes
note-keeps [] h = absurd (false≢true h)
note-keeps (b ∷ s) h =
    let p = (and-eq-true_iff (begins (b ∷ s)) (closes 1 s)).0 h in
    let q = (and-eq-true_iff (same (take 5 (b ∷ s)) (bytes "(note")) (eqb (get_or s 4 0) 32 || eqb (get_or s 4 0) 41)).0 p.0 in
    let five = same-eq (take 5 (b ∷ s)) (bytes "(note") q.0 in
    rest-keeps b s (ap (λ (l : List ℕ). get_or l 0 0) five) (by-test (eqb (get_or s 4 0) 32) five (eqb-true _ _) q.1) (closes-rest 1 s (omega arith) p.1)
  where
    by-test : (t : Bool) → take 5 (b ∷ s) ≡ bytes "(note" → (t ≡ true → get_or s 4 0 ≡ 32) → (t || eqb (get_or s 4 0) 41) ≡ true
        → (take 6 (b ∷ s) ≡ bytes "(note ") ⊎ (take 6 (b ∷ s) ≡ bytes "(note)")
    by-test true five e g = inl (six-bytes (b ∷ s) (bytes "(note") 32 five (e refl) (omega arith))
    by-test false five e g = inr (six-bytes (b ∷ s) (bytes "(note") 41 five (eqb-true _ _ g) (omega arith))

-- A line with such six bytes begins as a note.
six-begin : (line : List ℕ) (c : ℕ) → (eqb c 32 || eqb c 41) ≡ true → take 6 line ≡ bytes "(note" ++ (c ∷ []) → begins line ≡ true
unfolding begins same bytes
six-begin line c t e =
    let five : take 5 line ≡ bytes "(note" = sym (take-take 5 6 line (omega arith)) ∙ ap (λ (l : List ℕ). take 5 l) e in
    let last : get_or line 5 0 ≡ c = sym (get_or-take 6 line 5 0 (omega arith)) ∙ ap (λ (l : List ℕ). get_or l 5 0) e in
    rw (five, last, t) refl

-- A line that keeps the rule is a note.
keeps-note : (line : List ℕ) → KeepsNotes line → is_note line ≡ true
unfolding is_note bytes
keeps-note [] k = absurd (⊎_elim (λ e. omega (arith, ap length e)) (λ e. omega (arith, ap length e)) k.begins)
keeps-note (b ∷ s) k =
    let first : b ≡ 40 = ⊎_elim (ap (λ (l : List ℕ). get_or l 0 0)) (ap (λ (l : List ℕ). get_or l 0 0)) k.begins in
    let begun : begins (b ∷ s) ≡ true = ⊎_elim (six-begin (b ∷ s) 32 refl) (six-begin (b ∷ s) 41 refl) k.begins in
    rw (begun, rest-closes 1 s (keeps-rest b s first k)) refl

-- The notes are the lines that keep the rule.
pub note-rule-claim : NoteRuleClaim
note-rule-claim line = (note-keeps line, keeps-note line)
