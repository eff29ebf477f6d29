-- The input of a report, as far as its lines are in order: notes, a signal, notes, a limit, perhaps notes and weights, and then notes and
-- penalties. What such lines make the report print, and the checks of a line that follows them. The numbers are written out here from the
-- rules, so that a report that refuses under others does not meet the claims.
use Rattle.std.specs.Prelude.{◌≡◌, Bool, true, false, cond, ◌⊎◌, List, [], ◌∷◌, ◌++◌, map, ℕ, ◌≤◌, ◌<◌, leb, ℤ, length}
use Rattle.path.specs.Model.{Model}
use Rattle.path.specs.Refusal.{Check, check, ordered, refusal_of}
use Rattle.select.specs.Penalty.{valid_penalty}
use Rattle.weights.specs.Weights.{all_in_range, fitting, weight_checks}
use Rattle.hull.specs.Refusals.{FirstFailure}
use Rattle.hull.specs.Claims.{PathOfWinners, Falling}
use Rattle.segment.specs.Segment.{max_samples, Samples16}
use Rattle.signal.specs.Signal.{place_count, models_up_to}
use Rattle.signal.specs.SignalPath.{valid_limit}
use Rattle.text.specs.Text.{bytes, parts_of}
use Rattle.text.specs.Notes.{is_note}
use Rattle.report.specs.Forms.{Form, signal, limit, weights, penalty, note as noteForm, off, waits, form_of, form_text}
use Rattle.report.specs.Lines.{refusal_line, path_line}
use Rattle.report.specs.Report.{State, start, recorded, limited, answering, report_path, path_text, report_from, report_text}
use Rattle.demands.specs.Reports.{Each, lines_then, Weighing, weighing_lines, weights_in, Later, later_line, Lawful, later_text}

-- Lines that are notes.
abbrev pub Notes : List (List ℕ) → Type 0
Notes lines = Each (λ line. is_note line ≡ true) lines

-- Bytes without a line's end among them.
abbrev pub OneLine : List ℕ → Type 0
OneLine line = Each (λ (b : ℕ). b ≡ 10 → ⊥) line

-- A line whose first bytes are `(note` or `(weights`, whatever follows.
abbrev pub OpensEither : List ℕ → Type 0
OpensEither line = ((more : List ℕ) × (line ≡ bytes "(note" ++ more)) ⊎ ((more : List ℕ) × (line ≡ bytes "(weights" ++ more))

-- Whether a penalty is among such lines.
unfoldable pub asks : List Later → Bool
asks [] = false
asks (Later.note line ∷ later) = asks later
asks (Later.at_penalty p q ∷ later) = true

-- Lines in order: only notes so far, or a signal between notes, or a limit too and what has followed it.
pub data Front : Type 0 where
  opening : List (List ℕ) → Front
  with_signal : List (List ℕ) → List ℤ → List (List ℕ) → Front
  with_limit : List (List ℕ) → List ℤ → List (List ℕ) → ℕ → Weighing → List Later → Front

-- The lines themselves.
abbrev pub front_lines : Front → List (List ℕ)
front_lines (Front.opening notes) = notes
front_lines (Front.with_signal before samples between) = before ++ (form_text (signal samples) ∷ between)
front_lines (Front.with_limit before samples between k weighing later) =
    before ++ (form_text (signal samples) ∷ (between ++ (form_text (limit k) ∷ (weighing_lines weighing ++ map later_line later))))

-- A signal in range.
pub record SignalIn (samples : List ℤ) : Type 0 where
  pub some : 1 ≤ length samples
  pub few : length samples ≤ max_samples
  pub fit : Samples16 samples

-- A weights form is accepted for the limit, and notes stand before it.
abbrev pub FrontWeighed : ℕ → Weighing → Type 0
FrontWeighed k Weighing.none = Unit {0}
FrontWeighed k (Weighing.weighted notes ws) = Notes notes × (1 ≤ length ws) × (all_in_range ws ≡ true) × (fitting ws k ≡ true)

-- All of them are accepted, but for penalties out of range, after which reading goes on.
abbrev pub FrontInOrder : Front → Type 0
FrontInOrder (Front.opening notes) = Notes notes
FrontInOrder (Front.with_signal before samples between) = Notes before × SignalIn samples × Notes between
FrontInOrder (Front.with_limit before samples between k weighing later) =
    Notes before × SignalIn samples × Notes between × (valid_limit k ≡ true) × FrontWeighed k weighing × Each Lawful later

-- What is printed when they have been read: nothing until there is a penalty, then the path by the weights given, and each answer.
abbrev pub printed_by : Front → List ℕ
printed_by (Front.opening notes) = []
printed_by (Front.with_signal before samples between) = []
printed_by (Front.with_limit before samples between k weighing later) =
    cond (asks later) (path_text samples k (weights_in weighing)) []
    ++ later_text samples (report_path samples k (weights_in weighing)) later

-- The path, where it is due and has not been printed.
abbrev pub due_by : Front → List ℕ
due_by (Front.opening notes) = []
due_by (Front.with_signal before samples between) = []
due_by (Front.with_limit before samples between k weighing later) =
    cond (asks later) [] (path_text samples k (weights_in weighing))

-- What is printed when a further line is reached, whatever it then gets: a path that is due, unless the line opens `(note` or `(weights`.
abbrev pub reached_by : Front → List ℕ → List ℕ
reached_by front line = printed_by front ++ cond (waits line) [] (due_by front)

-- The state of reading after them.
abbrev pub state_after : Front → State
state_after (Front.opening notes) = start
state_after (Front.with_signal before samples between) = recorded samples
state_after (Front.with_limit before samples between k weighing later) =
    cond (asks later) (answering samples k (weights_in weighing)) (limited samples k (weights_in weighing))

-- What the end of the input prints: a refusal where there is no signal or no limit, and else a path that is due.
abbrev pub front_end_text : Front → List ℕ
front_end_text (Front.opening notes) = refusal_line 11
front_end_text (Front.with_signal before samples between) = refusal_line 11
front_end_text (Front.with_limit before samples between k weighing later) = due_by (Front.with_limit before samples between k weighing later)

-- A line that is not the text of a form in its place fails the check of 11.
abbrev pub misplaced : List Check
misplaced = check 11 false ∷ []

-- The checks of a line by its form where a signal is due: 11, 1, 2.
abbrev pub first_checks : Form → List Check
first_checks (signal samples) = check 1 (leb 1 (length samples)) ∷ check 2 (leb (length samples) max_samples) ∷ []
first_checks (limit k) = misplaced
first_checks (weights ws) = misplaced
first_checks (penalty p q) = misplaced
first_checks noteForm = []
first_checks off = misplaced

-- Where a limit is due: 11, 3.
abbrev pub second_checks : Form → List Check
second_checks (signal samples) = misplaced
second_checks (limit k) = check 3 (valid_limit k) ∷ []
second_checks (weights ws) = misplaced
second_checks (penalty p q) = misplaced
second_checks noteForm = []
second_checks off = misplaced

-- The checks of a weights form after a limit, where it is the first one and no penalty stands before it: 11, 14 where it has no weights,
-- then 5, 14 as in a call.
abbrev pub weighing_checks : ℕ → Weighing → Bool → List ℕ → List Check
weighing_checks k Weighing.none false ws =
    check 14 (leb 1 (length ws)) ∷ check 5 (all_in_range ws) ∷ check 14 (fitting ws k) ∷ []
weighing_checks k Weighing.none true ws = misplaced
weighing_checks k (Weighing.weighted notes vs) asked ws = misplaced

-- After the limit: 11, those of weights, 4.
abbrev pub third_checks : ℕ → Weighing → Bool → Form → List Check
third_checks k weighing asked (signal samples) = misplaced
third_checks k weighing asked (limit l) = misplaced
third_checks k weighing asked (weights ws) = weighing_checks k weighing asked ws
third_checks k weighing asked (penalty p q) = check 4 (valid_penalty p q) ∷ []
third_checks k weighing asked noteForm = []
third_checks k weighing asked off = misplaced

-- The checks of a line by its form after lines in order.
abbrev pub line_checks : Front → Form → List Check
line_checks (Front.opening notes) = first_checks
line_checks (Front.with_signal before samples between) = second_checks
line_checks (Front.with_limit before samples between k weighing later) = third_checks k weighing (asks later)

-- A line holds the path back if and only if `(note` or `(weights` are its first bytes.
abbrev pub WaitsClaim : Type 0
WaitsClaim =
    (line : List ℕ) → (waits line ≡ true → OpensEither line) × (OpensEither line → waits line ≡ true)

-- The report of lines in order, with any bytes behind them: the path's line, if a penalty was reached, and the answers so far, and then
-- what is made of the rest. So what has been printed stays, whatever follows. Here and below the whole input is at most 16,384 bytes.
abbrev pub FrontClaim : Type 0
FrontClaim =
    (front : Front) (rest : List ℕ) → FrontInOrder front → length (lines_then rest (front_lines front)) ≤ 16384
    → report_text (lines_then rest (front_lines front)) ≡ printed_by front ++ report_from (state_after front) (parts_of 10 rest)

-- An input that ends after lines in order gets 11 where it has no signal or no limit, and else a path that is due.
abbrev pub FrontEndClaim : Type 0
FrontEndClaim =
    (front : Front) → FrontInOrder front → length (lines_then [] (front_lines front)) ≤ 16384
    → report_text (lines_then [] (front_lines front)) ≡ printed_by front ++ front_end_text front

-- An input that ends within a line after lines in order gets 11 for that line, behind a path that the line brings.
abbrev pub FrontUnendedClaim : Type 0
FrontUnendedClaim =
    (front : Front) (line : List ℕ) → FrontInOrder front → OneLine line → 1 ≤ length line
    → length (lines_then line (front_lines front)) ≤ 16384
    → report_text (lines_then line (front_lines front)) ≡ reached_by front line ++ refusal_line 11

-- A line after lines in order gets the number of the first of its checks that fails. Where this is not 4, the report ends with it, whatever
-- follows.
abbrev pub RefusedLineClaim : Type 0
RefusedLineClaim =
    (front : Front) (line rest : List ℕ) (c : ℕ) → FrontInOrder front → OneLine line
    → FirstFailure (line_checks front (form_of line)) c → (c ≡ 4 → ⊥)
    → length (lines_then (line ++ (10 ∷ rest)) (front_lines front)) ≤ 16384
    → report_text (lines_then (line ++ (10 ∷ rest)) (front_lines front)) ≡ reached_by front line ++ refusal_line c

-- How an input goes on after lines in order: not at all, within a line that does not end, or with a line that is refused, and any bytes.
pub data Ending : Type 0 where
  at_end : Ending
  unended : List ℕ → Ending
  refused_line : List ℕ → List ℕ → ℕ → Ending

-- Its bytes.
abbrev pub ending_bytes : Ending → List ℕ
ending_bytes Ending.at_end = []
ending_bytes (Ending.unended line) = line
ending_bytes (Ending.refused_line line rest c) = line ++ (10 ∷ rest)

-- It is such an ending after these lines. The number of a refused line is not 4.
abbrev pub FrontEnds : Front → Ending → Type 0
FrontEnds front Ending.at_end = Unit {0}
FrontEnds front (Ending.unended line) = OneLine line × (1 ≤ length line)
FrontEnds front (Ending.refused_line line rest c) = OneLine line × FirstFailure (line_checks front (form_of line)) c × (c ≡ 4 → ⊥)

-- Every input is lines in order with such an ending, so that the three claims before have the report of every input that is not too long. A
-- line whose checks all pass, and one that gets 4, is a further line in order.
abbrev pub EveryInput : Type 0
EveryInput =
    (input : List ℕ) → (front : Front) × (ending : Ending) × FrontInOrder front × FrontEnds front ending
    × (input ≡ lines_then (ending_bytes ending) (front_lines front))

-- An input that is too long has nothing but (refused 11).
abbrev pub TooLongClaim : Type 0
TooLongClaim = (input : List ℕ) → 16384 < length input → report_text input ≡ refusal_line 11

-- The path that is printed, with weights just where they were given: sizes and weights rise and losses fall, it lists the sizes that
-- can win, among all sizes that occur, and its breakpoints fall.
pub record PrintsPath (samples : List ℤ) (k : ℕ) (ws : List ℕ) (path : List Model) : Type 0 where
  pub line : path_text samples k ws ≡ path_line (leb 1 (length ws)) path
  pub in_order : ordered path ≡ true
  pub winners : PathOfWinners path (models_up_to samples 1 ws (place_count samples k))
  pub falling : Falling path

-- It is the path by which penalties are answered.
abbrev pub PrintedPathClaim : Type 0
PrintedPathClaim =
    (samples : List ℤ) (k : ℕ) (ws : List ℕ) → SignalIn samples → valid_limit k ≡ true → refusal_of (weight_checks ws k) ≡ 0
    → PrintsPath samples k ws (report_path samples k ws)
