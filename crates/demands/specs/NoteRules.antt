-- The rule of notes told by counting brackets: how a note begins, its bytes, and how many brackets are open behind each byte. The numbers
-- are written out here from the rules, so that notes read under others do not meet the claim.
use Rattle.std.specs.Prelude.{◌≡◌, true, cond, ◌⊎◌, List, [], ◌∷◌, ℕ, ◌+◌, ◌≤◌, ◌<◌, eqb, length, get_or, take}
use Rattle.text.specs.Text.{bytes}
use Rattle.text.specs.Notes.{is_note}

-- How often a byte stands in a text.
unfoldable pub times : ℕ → List ℕ → ℕ
times byte [] = 0
times byte (b ∷ s) = cond (eqb b byte) 1 0 + times byte s

-- The brackets that a text opens.
abbrev pub opened : List ℕ → ℕ
opened s = times 40 s

-- The brackets that a text closes.
abbrev pub closed : List ℕ → ℕ
closed s = times 41 s

-- A line keeps the rule: it begins with `(note` and a blank or a bracket that closes, its bytes are 32 to 126, from behind its first byte
-- to before its last one 1 to 8 brackets are open, and at its end none is.
pub record KeepsNotes (line : List ℕ) : Type 0 where
  pub begins : (take 6 line ≡ bytes "(note ") ⊎ (take 6 line ≡ bytes "(note)")
  pub printable : (i : ℕ) → i < length line → (32 ≤ get_or line i 0) × (get_or line i 0 ≤ 126)
  pub within : (i : ℕ) → 1 ≤ i → i < length line
      → (closed (take i line) < opened (take i line)) × (opened (take i line) ≤ closed (take i line) + 8)
  pub balanced : opened line ≡ closed line

-- The notes are the lines that keep the rule.
abbrev pub NoteRuleClaim : Type 0
NoteRuleClaim = (line : List ℕ) → (is_note line ≡ true → KeepsNotes line) × (KeepsNotes line → is_note line ≡ true)
