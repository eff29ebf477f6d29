-- Lines in order are passed, whatever follows them, and every input is such lines with an ending.
use mathlib.Core.Path.{◌≡◌, refl, sym, ap, subst, ◌∙◌}
use mathlib.Core.Bool.{Bool, true, false, cond, ◌||◌, false≢true, or-true, and-eq-true_iff}
use mathlib.Core.Logic.{◌⊎◌, inl, inr, ⊎_elim}
use mathlib.Core.List.{List, [], ◌∷◌, ◌++◌, map, append_assoc, append-nil}
use Prim.Native.Nat.{ℕ, ◌≤◌, ◌<◌}
use native.Mathlib.Nat.{eq-zero-or-pos}
use native.Mathlib.Omega.{arith}
use lib.Dec.{leb, ltb, eqb}
use lib.IntN.{ℤ}
use lib.ListN.{length, take, drop, take-append-drop}
use borrow.Table.Elements.{map_app}
use borrow.Author.Tests.{le-leb, lt-leb, leb-true, ltb-true, eqb-true, eqb-false, eq-eqb, ne_eqb}
use Rattle.path.specs.Refusal.{Check, check, by_checks, refusal_of, max_loss}
use Rattle.path.proofs.Checks.{numbered, both, passed, accepts, refuses}
use Rattle.weights.specs.Weights.{all_in_range, fitting}
use Rattle.weights.specs.Inner.{Weighable}
use Rattle.weights.proofs.Steps.{weighs, weighs-fewer}
use Rattle.hull.specs.Refusals.{FirstFailure}
use Rattle.hull.proofs.Winners.{winners-with-skipped}
use Rattle.hull.proofs.Orders.{in_order}
use Rattle.segment.specs.Segment.{max_samples}
use Rattle.least.specs.Segmentation.{max_segments}
use Rattle.least.proofs.LeastLosses.{least-low}
use Rattle.signal.specs.Signal.{place_count, least_losses, models_up_to}
use Rattle.signal.specs.SignalPath.{valid_limit}
use Rattle.signal.proofs.Paths.{path-ordered}
use Rattle.text.specs.Text.{bytes, same, parts_of}
use Rattle.text.specs.Notes.{is_note}
use Rattle.text.proofs.Parts.{same-eq, without, parts-one, parts_more}
use Rattle.text.proofs.Searches.{parts-some}
use Rattle.report.specs.Forms.{Form, signal, limit, weights, penalty, note, off, form_text, opens_with, waits, form_of}
use Rattle.report.specs.Lines.{refusal_line}
use Rattle.report.specs.Report.{State, start, recorded, limited, answering, Turn, goes, stops, form_checks, signal_turn, limit_turn, weights_turn, penalty_turn, turn_of, due_text, reached_text, reached_state, ended, printed, last_part, report_from, input_len, report_text, report_path, path_text, answer_text}
use Rattle.report.specs.Claims.{Written}
use Rattle.report.proofs.Turns.{Settled, start-settled, recorded-settled, answering-settled, settled-text, settled-state, due-text, due-state, wait-text, wait-state, stopped}
use Rattle.report.proofs.Weighing.{turn-checks}
use Rattle.report.proofs.FormsRead.{reads_written, written_read, notes_read}
use Rattle.report.proofs.Inputs.{report-cons, note-on}
use Rattle.demands.proofs.Tried.{appended, path-sound, tried-or-skipped}
use Rattle.demands.proofs.Reports.{note-without, form-without, all-below, weights-open, penalty-opens, each-without, text_of}
use Rattle.demands.specs.Reports.{Each, lines_then, Weighing, weighing_lines, weights_in, Later, later_line, Lawful, later_text}
use Rattle.demands.specs.Inputs.{Notes, OneLine, OpensEither, WaitsClaim, PrintedPathClaim, asks, Front, front_lines, FrontWeighed, FrontInOrder, printed_by, due_by, reached_by, state_after, front_end_text}
use Rattle.demands.specs.Inputs.{first_checks, second_checks, weighing_checks, third_checks, line_checks, FrontClaim, FrontEndClaim, FrontUnendedClaim, RefusedLineClaim, Ending, ending_bytes, FrontEnds, EveryInput, TooLongClaim}

-- What weights of a form pass, where there is one.
form-passes : (ws : List ℕ) (k : ℕ) → 1 ≤ length ws → all_in_range ws ≡ true → fitting ws k ≡ true → refusal_of (form_checks ws k) ≡ 0
unfolding refusal_of
form-passes ws k some low fits = rw (le-leb 1 (length ws) some, low, fits) refl

-- A form that is read from its text is no note and not off the layout.
abbrev is_written : Form → Bool
is_written (signal xs) = true
is_written (limit k) = true
is_written (weights ws) = true
is_written (penalty p q) = true
is_written note = false
is_written off = false

read_back : (line : List ℕ) (f : Form) → is_written f ≡ true → form_of line ≡ f → Written f × (line ≡ form_text f)
read_back line f w e =
    reads_written line f e (λ z. false≢true (sym (ap is_written z) ∙ w)) (λ z. false≢true (sym (ap is_written z) ∙ w))

-- A line that is ended takes its turn.
on-ended : (s : State) (line rest : List ℕ) → without 10 line ≡ true
    → report_from s (parts_of 10 (line ++ (10 ∷ rest)))
    ≡ reached_text s line ++ printed (turn_of (reached_state s line) (form_of line)) (λ t. report_from t (parts_of 10 rest))
on-ended s line rest h = rw (parts_more 10 line rest h) (report-cons s line (parts_of 10 rest) (parts-some 10 rest))

-- What is printed from a state on for some lines and any bytes after them.
module _ (rest : List ℕ) where
  abbrev from : State → List (List ℕ) → List ℕ
  from s lines = report_from s (parts_of 10 (lines_then rest lines))

  on_line : (s : State) (line : List ℕ) (lines : List (List ℕ)) → without 10 line ≡ true
      → from s (line ∷ lines) ≡ reached_text s line ++ printed (turn_of (reached_state s line) (form_of line)) (λ t. from t lines)
  unfolding lines_then
  on_line s line lines h = on-ended s line (lines_then rest lines) h

  -- Where no path is due, a line takes its turn.
  settled-line : (s : State) → Settled s → (line : List ℕ) (lines : List (List ℕ)) → without 10 line ≡ true
      → from s (line ∷ lines) ≡ printed (turn_of s (form_of line)) (λ t. from t lines)
  settled-line s d line lines h = on_line s line lines h ∙ rw (settled-text s d line, settled-state s d line) refl

  -- Where one is due, a line that opens neither `(note` nor `(weights` brings it first.
  due-line : (xs : List ℤ) (k : ℕ) (vs : List ℕ) (line : List ℕ) (lines : List (List ℕ)) → without 10 line ≡ true → waits line ≡ false
      → from (limited xs k vs) (line ∷ lines) ≡ path_text xs k vs ++ from (answering xs k vs) (line ∷ lines)
  due-line xs k vs line lines h w =
      let on = settled-line (answering xs k vs) (answering-settled xs k vs) line lines h in
      on_line (limited xs k vs) line lines h
      ∙ rw (due-text xs k vs line w, due-state xs k vs line w) (ap (λ (z : List ℕ). path_text xs k vs ++ z) (sym on))

  -- Notes are passed over.
  on-notes : (s : State) (notes lines : List (List ℕ)) → Notes notes → from s (notes ++ lines) ≡ from s lines
  on-notes s [] lines h = refl
  on-notes s (n ∷ ns) lines h =
      on_line s n (ns ++ lines) (note-without n h.0) ∙ note-on n s (λ t. from t (ns ++ lines)) h.0 ∙ on-notes s ns lines h.1

  -- A signal in range is taken.
  on-signal : (xs : List ℤ) (lines : List (List ℕ)) → form_of (form_text (signal xs)) ≡ signal xs → 1 ≤ length xs → length xs ≤ max_samples
      → from start (form_text (signal xs) ∷ lines) ≡ from (recorded xs) lines
  unfolding turn_of signal_turn by_checks refusal_of printed
  on-signal xs lines e h k =
      settled-line start start-settled (form_text (signal xs)) lines (form-without (signal xs)) ∙ rw (e, le-leb 1 (length xs) h, le-leb (length xs) max_samples k) refl

  -- A limit in range is taken.
  on-limit : (xs : List ℤ) (k : ℕ) (lines : List (List ℕ)) → form_of (form_text (limit k)) ≡ limit k → valid_limit k ≡ true
      → from (recorded xs) (form_text (limit k) ∷ lines) ≡ from (limited xs k []) lines
  unfolding turn_of limit_turn by_checks refusal_of printed
  on-limit xs k lines e h = settled-line (recorded xs) (recorded-settled xs) (form_text (limit k)) lines (form-without (limit k)) ∙ rw (e, h) refl

  -- Accepted weights are taken, and the path waits.
  on-weights : (xs : List ℤ) (k : ℕ) (ws : List ℕ) (lines : List (List ℕ)) → 1 ≤ length ws → all_in_range ws ≡ true → fitting ws k ≡ true
      → from (limited xs k []) (form_text (weights ws) ∷ lines) ≡ from (limited xs k ws) lines
  unfolding turn_of printed
  on-weights xs k ws lines some low fits =
      let line = form_text (weights ws) in
      let wait = weights-open ws in
      let e = written_read (weights ws) (all-below ws low) in
      let t = turn-checks ws k xs ∙ sym (accepts (form_checks ws k) stops (goes [] (limited xs k ws)) (form-passes ws k some low fits)) in
      on_line (limited xs k []) line lines (form-without (weights ws))
      ∙ rw (wait-text xs k [] line wait, wait-state xs k [] line wait, e, t) refl

  -- The lines that may follow a limit.
  on-weighing : (xs : List ℤ) (k : ℕ) (w : Weighing) (lines : List (List ℕ)) → FrontWeighed k w
      → from (limited xs k []) (weighing_lines w ++ lines) ≡ from (limited xs k (weights_in w)) lines
  on-weighing xs k Weighing.none lines h = refl
  on-weighing xs k (Weighing.weighted notes ws) lines h =
      ap (from (limited xs k [])) (append_assoc notes (form_text (weights ws) ∷ []) lines)
      ∙ on-notes (limited xs k []) notes _ h.0
      ∙ on-weights xs k ws lines h.1 h.2 h.3

  -- Notes are the last lines.
  on-last-notes : (s : State) (notes : List (List ℕ)) → Notes notes → from s notes ≡ report_from s (parts_of 10 rest)
  unfolding lines_then
  on-last-notes s notes h = ap (from s) (sym (append-nil notes)) ∙ on-notes s notes [] h

  -- A penalty brings its answer.
  on-penalty : (xs : List ℤ) (k : ℕ) (ws : List ℕ) (p q : ℕ) (lines : List (List ℕ)) → form_of (form_text (penalty p q)) ≡ penalty p q
      → from (answering xs k ws) (form_text (penalty p q) ∷ lines) ≡ answer_text xs (report_path xs k ws) p q ++ from (answering xs k ws) lines
  unfolding turn_of penalty_turn printed
  on-penalty xs k ws p q lines e =
      settled-line (answering xs k ws) (answering-settled xs k ws) (form_text (penalty p q)) lines (form-without (penalty p q)) ∙ rw e refl

  -- Once the path is printed, each penalty brings its answer, and then the rest follows.
  on-later : (xs : List ℤ) (k : ℕ) (ws : List ℕ) (later : List Later) → Each Lawful later
      → from (answering xs k ws) (map later_line later)
      ≡ later_text xs (report_path xs k ws) later ++ report_from (answering xs k ws) (parts_of 10 rest)
  unfolding later_text lines_then
  on-later xs k ws [] h = refl
  on-later xs k ws (Later.note line ∷ later) h =
      on-notes (answering xs k ws) (line ∷ []) (map later_line later) (h.0, tt) ∙ on-later xs k ws later h.1
  on-later xs k ws (Later.at_penalty p q ∷ later) h =
      let answer = answer_text xs (report_path xs k ws) p q in
      on-penalty xs k ws p q (map later_line later) (written_read (penalty p q) h.0)
      ∙ ap (λ (t : List ℕ). answer ++ t) (on-later xs k ws later h.1)
      ∙ sym (append_assoc answer (later_text xs (report_path xs k ws) later) (report_from (answering xs k ws) (parts_of 10 rest)))

  -- Where the path is due, the first penalty brings it.
  on-due : (xs : List ℤ) (k : ℕ) (ws : List ℕ) (later : List Later) → Each Lawful later
      → from (limited xs k ws) (map later_line later)
      ≡ cond (asks later) (path_text xs k ws) [] ++ later_text xs (report_path xs k ws) later
      ++ report_from (cond (asks later) (answering xs k ws) (limited xs k ws)) (parts_of 10 rest)
  unfolding later_text lines_then asks
  on-due xs k ws [] h = refl
  on-due xs k ws (Later.note line ∷ later) h =
      on-notes (limited xs k ws) (line ∷ []) (map later_line later) (h.0, tt) ∙ on-due xs k ws later h.1
  on-due xs k ws (Later.at_penalty p q ∷ later) h =
      let line = Later.at_penalty p q in
      due-line xs k ws (form_text (penalty p q)) (map later_line later) (form-without (penalty p q)) (penalty-opens p q)
      ∙ ap (λ (t : List ℕ). path_text xs k ws ++ t) (on-later xs k ws (line ∷ later) h)
      ∙ sym (append_assoc (path_text xs k ws) (later_text xs (report_path xs k ws) (line ∷ later)) (report_from (answering xs k ws) (parts_of 10 rest)))

  -- Lines in order are passed.
  on-front : (front : Front) → FrontInOrder front → from start (front_lines front) ≡ printed_by front ++ report_from (state_after front) (parts_of 10 rest)
  on-front (Front.opening notes) h = on-last-notes start notes h
  on-front (Front.with_signal before xs between) h =
      let r = h.1 in
      on-notes start before _ h.0
      ∙ on-signal xs _ (written_read (signal xs) r.fit) r.some r.few
      ∙ on-last-notes (recorded xs) between h.2
  on-front (Front.with_limit before xs between k w later) h =
      let r = h.1 in
      let v = (and-eq-true_iff (leb 1 k) (leb k max_segments)).0 h.3 in
      on-notes start before _ h.0
      ∙ on-signal xs _ (written_read (signal xs) r.fit) r.some r.few
      ∙ on-notes (recorded xs) between _ h.2
      ∙ on-limit xs k _ (written_read (limit k) (omega (arith, leb-true k max_segments v.1))) h.3
      ∙ on-weighing xs k w _ h.4
      ∙ on-due xs k (weights_in w) later h.5

pub front-claim : FrontClaim
front-claim front rest h short = text_of _ short ∙ on-front rest front h

-- What the end prints.
end_is : (front : Front) → report_from (state_after front) (parts_of 10 []) ≡ front_end_text front
unfolding report_from last_part ended parts_of
end_is (Front.opening notes) = refl
end_is (Front.with_signal before xs between) = refl
end_is (Front.with_limit before xs between k w later) = by-test (asks later)
  where
    by-test : (t : Bool) → report_from (cond t (answering xs k (weights_in w)) (limited xs k (weights_in w))) (parts_of 10 [])
        ≡ cond t [] (path_text xs k (weights_in w))
    by-test true = refl
    by-test false = refl

pub front-end-claim : FrontEndClaim
front-end-claim front h short = front-claim front [] h short ∙ ap (λ (t : List ℕ). printed_by front ++ t) (end_is front)

-- What a line brings before its turn.
due-is : (front : Front) → due_text (state_after front) ≡ due_by front
unfolding due_text
due-is (Front.opening notes) = refl
due-is (Front.with_signal before xs between) = refl
due-is (Front.with_limit before xs between k w later) = by-test (asks later)
  where
    by-test : (t : Bool) → due_text (cond t (answering xs k (weights_in w)) (limited xs k (weights_in w))) ≡ cond t [] (path_text xs k (weights_in w))
    by-test true = refl
    by-test false = refl

-- The report of a line after lines in order ends with a text after what the line brings.
reached : (front : Front) (line more : List ℕ)
    → printed_by front ++ (reached_text (state_after front) line ++ more) ≡ reached_by front line ++ more
unfolding reached_text
reached front line more = rw (due-is front) (sym (append_assoc (printed_by front) (cond (waits line) [] (due_by front)) more))

-- A line that is unended gets 11, after what it brings.
on-unended : (s : State) (line : List ℕ) → without 10 line ≡ true → 1 ≤ length line
    → report_from s (parts_of 10 line) ≡ reached_text s line ++ refusal_line 11
unfolding report_from last_part
on-unended s [] h some = absurd (omega arith)
on-unended s (b ∷ line) h some = rw (parts-one 10 (b ∷ line) h) refl

pub front-unended-claim : FrontUnendedClaim
front-unended-claim front line h one some short =
    front-claim front line h short
    ∙ ap (λ (t : List ℕ). printed_by front ++ t) (on-unended (state_after front) line (each-without line one) some)
    ∙ reached front line (refusal_line 11)

pub too-long-claim : TooLongClaim
unfolding report_text
too-long-claim input h = rw (lt-leb (length input) input_len h) refl

-- A line off its place is refused under 11.
misplaced-is : (turn : Turn) (c : ℕ) → turn ≡ stops 11 → FirstFailure (check 11 false ∷ []) c → turn ≡ stops c
misplaced-is turn c e f = ⊎_elim (λ g. e ∙ ap stops g.1) (λ g. absurd (false≢true g.0)) f

-- Its number is above 0.
failure-some : (cs : List Check) (c : ℕ) → numbered cs ≡ true → FirstFailure cs c → 0 < c
failure-some [] c n f = absurd f
failure-some (d ∷ ds) c n f =
    let m = both (ltb 0 d.number) (numbered ds) n in
    ⊎_elim (λ g. omega (arith, ltb-true 0 d.number m.0, g.1)) (λ g. failure-some ds c m.1 g.1) f

-- A form that goes by its checks stops under the number of the first that fails.
fails : (checks : List Check) (next : Turn) (c : ℕ) → numbered checks ≡ true → FirstFailure checks c → by_checks checks stops next ≡ stops c
fails checks next c n f =
    let order = in_order checks n (refusal_of checks) refl in
    sym (refuses checks stops next c (sym (order.refused_if c f)) (λ z. omega (arith, failure-some checks c n f)))

first-turn : (f : Form) (c : ℕ) → FirstFailure (first_checks f) c → signal_turn f ≡ stops c
unfolding signal_turn
first-turn (signal xs) c h = fails (first_checks (signal xs)) (goes [] (recorded xs)) c refl h
first-turn (limit k) c h = misplaced-is _ c refl h
first-turn (weights ws) c h = misplaced-is _ c refl h
first-turn (penalty p q) c h = misplaced-is _ c refl h
first-turn note c h = absurd h
first-turn off c h = misplaced-is _ c refl h

second-turn : (xs : List ℤ) (f : Form) (c : ℕ) → FirstFailure (second_checks f) c → limit_turn xs f ≡ stops c
unfolding limit_turn
second-turn xs (signal ys) c h = misplaced-is _ c refl h
second-turn xs (limit k) c h = fails (second_checks (limit k)) (goes [] (limited xs k [])) c refl h
second-turn xs (weights ws) c h = misplaced-is _ c refl h
second-turn xs (penalty p q) c h = misplaced-is _ c refl h
second-turn xs note c h = absurd h
second-turn xs off c h = misplaced-is _ c refl h

-- A penalty fails under no number but 4.
penalty-four : (t : Bool) (c : ℕ) → FirstFailure (check 4 t ∷ []) c → c ≡ 4
penalty-four t c h = ⊎_elim (λ g. sym g.1) (λ g. absurd g.1) h

-- Once the path is printed.
asked-turn : (xs : List ℤ) (k : ℕ) (w : Weighing) (f : Form) (c : ℕ) → FirstFailure (third_checks k w true f) c → (c ≡ 4 → ⊥)
    → penalty_turn xs k (weights_in w) f ≡ stops c
unfolding penalty_turn
asked-turn xs k w (signal ys) c h n = misplaced-is _ c refl h
asked-turn xs k w (limit l) c h n = misplaced-is _ c refl h
asked-turn xs k Weighing.none (weights ws) c h n = misplaced-is _ c refl h
asked-turn xs k (Weighing.weighted notes vs) (weights ws) c h n = misplaced-is _ c refl h
asked-turn xs k w (penalty p q) c h n = absurd (n (penalty-four _ c h))
asked-turn xs k w note c h n = absurd h
asked-turn xs k w off c h n = misplaced-is _ c refl h

-- Before it is printed, at a line for which it waits.
waiting-turn : (xs : List ℤ) (k : ℕ) (w : Weighing) (f : Form) (c : ℕ) → FrontWeighed k w → FirstFailure (third_checks k w false f) c → (c ≡ 4 → ⊥)
    → weights_turn xs k (weights_in w) f ≡ stops c
unfolding weights_turn by_checks refusal_of
waiting-turn xs k w (signal ys) c d h n = misplaced-is _ c refl h
waiting-turn xs k w (limit l) c d h n = misplaced-is _ c refl h
waiting-turn xs k Weighing.none (weights ws) c d h n = turn-checks ws k xs ∙ fails (form_checks ws k) (goes [] (limited xs k ws)) c refl h
waiting-turn xs k (Weighing.weighted notes vs) (weights ws) c d h n = misplaced-is _ c (rw (ne_eqb (length vs) 0 (λ z. omega (arith, d.1))) refl) h
waiting-turn xs k w (penalty p q) c d h n = absurd (n (penalty-four _ c h))
waiting-turn xs k w note c d h n = absurd h
waiting-turn xs k w off c d h n = misplaced-is _ c refl h

-- A line that brings the path is no weights form, since that opens `(weights`.
reaching-turn : (xs : List ℤ) (k : ℕ) (w : Weighing) (line : List ℕ) (f : Form) (c : ℕ) → form_of line ≡ f → waits line ≡ false
    → FirstFailure (third_checks k w false f) c → (c ≡ 4 → ⊥) → penalty_turn xs k (weights_in w) f ≡ stops c
unfolding penalty_turn
reaching-turn xs k w line (signal ys) c e o h n = misplaced-is _ c refl h
reaching-turn xs k w line (limit l) c e o h n = misplaced-is _ c refl h
reaching-turn xs k w line (weights ws) c e o h n =
    let r = read_back line (weights ws) refl e in
    absurd (false≢true (sym o ∙ ap (λ (t : List ℕ). waits t) r.1 ∙ weights-open ws))
reaching-turn xs k w line (penalty p q) c e o h n = absurd (n (penalty-four _ c h))
reaching-turn xs k w line note c e o h n = absurd h
reaching-turn xs k w line off c e o h n = misplaced-is _ c refl h

-- The turn of a line after lines in order stops under its number.
front-turn : (front : Front) (line : List ℕ) (c : ℕ) → FrontInOrder front → FirstFailure (line_checks front (form_of line)) c → (c ≡ 4 → ⊥)
    → turn_of (reached_state (state_after front) line) (form_of line) ≡ stops c
unfolding turn_of
front-turn (Front.opening notes) line c h f n = rw (settled-state start start-settled line) (first-turn (form_of line) c f)
front-turn (Front.with_signal before xs between) line c h f n =
    rw (settled-state (recorded xs) (recorded-settled xs) line) (second-turn xs (form_of line) c f)
front-turn (Front.with_limit before xs between k w later) line c h f n = by_tests (asks later) (waits line) refl f
  where
    by_tests : (t u : Bool) → waits line ≡ u → FirstFailure (third_checks k w t (form_of line)) c
        → turn_of (reached_state (cond t (answering xs k (weights_in w)) (limited xs k (weights_in w))) line) (form_of line) ≡ stops c
    by_tests true u o f =
        rw (settled-state (answering xs k (weights_in w)) (answering-settled xs k (weights_in w)) line) (asked-turn xs k w (form_of line) c f n)
    by_tests false true o f = rw (wait-state xs k (weights_in w) line o) (waiting-turn xs k w (form_of line) c h.4 f n)
    by_tests false false o f = rw (due-state xs k (weights_in w) line o) (reaching-turn xs k w line (form_of line) c refl o f n)

pub refused-line-claim : RefusedLineClaim
refused-line-claim front line rest c h one f n short =
    let s = state_after front in
    front-claim front (line ++ (10 ∷ rest)) h short
    ∙ ap (λ (t : List ℕ). printed_by front ++ t) (on-ended s line rest (each-without line one))
    ∙ ap (λ (t : List ℕ). printed_by front ++ (reached_text s line ++ t)) (stopped _ c _ (front-turn front line c h f n))
    ∙ reached front line (refusal_line c)

-- A line that is in order after lines in order makes more such lines.
abbrev Grown : Front → List ℕ → Type 0
Grown front line = (next : Front) × FrontInOrder next × (front_lines next ≡ front_lines front ++ (line ∷ []))

-- A property of one more item.
each_more : {A : Type 0} (P : A → Type 0) (xs : List A) (x : A) → Each P xs → P x → Each P (xs ++ (x ∷ []))
each_more P [] x h p = (p, tt)
each_more P (y ∷ xs) x h p = (h.0, each_more P xs x h.1 p)

-- Lines without a penalty are notes.
notes-only : (later : List Later) → asks later ≡ false → Each Lawful later → Notes (map later_line later)
unfolding asks
notes-only [] n h = tt
notes-only (Later.note line ∷ later) n h = (h.0, notes-only later n h.1)
notes-only (Later.at_penalty p q ∷ later) n h = absurd (false≢true (sym n))

-- What becomes of a line with these checks: one fails, not that of 4, or the line is in order.
abbrev Judged : Front → List ℕ → List Check → Type 0
Judged front line checks = ((c : ℕ) × FirstFailure checks c × (c ≡ 4 → ⊥)) ⊎ Grown front line

-- Checks that fail, none of them that of 4.
off-place : (front : Front) (line : List ℕ) → Judged front line (check 11 false ∷ [])
off-place front line = inl (11, inl (refl, refl), λ z. omega arith)

-- A line by its checks, none of which is that of 4: it is in order where all pass.
by-checks : (front : Front) (line : List ℕ) (checks : List Check) → numbered checks ≡ true → (FirstFailure checks 4 → ⊥)
    → (refusal_of checks ≡ 0 → Grown front line) → Judged front line checks
by-checks front line checks n four grow =
    ⊎_elim (λ e. inr (grow e))
    (λ h.
    let c = refusal_of checks in
    let f = (in_order checks n c refl).refused_only_if c h refl in
    inl (c, f, λ z. four (subst (FirstFailure checks) z f)))
    (eq-zero-or-pos (refusal_of checks))

-- Two checks, and neither is that of 4.
no-four : (a b : ℕ) (t u : Bool) → (a ≡ 4 → ⊥) → (b ≡ 4 → ⊥) → FirstFailure (check a t ∷ check b u ∷ []) 4 → ⊥
no-four a b t u m n f = ⊎_elim (λ g. m g.1) (λ g. ⊎_elim (λ e. n e.1) (λ e. e.1) g.1) f

-- A line after notes.
first-judged : (notes : List (List ℕ)) (line : List ℕ) (f : Form) → Notes notes → form_of line ≡ f
    → Judged (Front.opening notes) line (first_checks f)
first-judged notes line (signal xs) h e =
    let t = leb 1 (length xs) in
    let u = leb (length xs) max_samples in
    let r = read_back line (signal xs) refl e in
    by-checks (Front.opening notes) line (first_checks (signal xs)) refl (no-four 1 2 t u (λ z. omega arith) (λ z. omega arith))
    (λ z.
    let a = passed (check 1 t) (check 2 u ∷ []) (omega arith) z in
    let b = passed (check 2 u) [] (omega arith) a.1 in (
      Front.with_signal notes xs [],
      (h, record { some = leb-true 1 (length xs) a.0; few = leb-true (length xs) max_samples b.0; fit = r.0 }, tt),
      ap (λ (l : List ℕ). notes ++ (l ∷ [])) (sym r.1),
    ))
first-judged notes line (limit k) h e = off-place (Front.opening notes) line
first-judged notes line (weights ws) h e = off-place (Front.opening notes) line
first-judged notes line (penalty p q) h e = off-place (Front.opening notes) line
first-judged notes line note h e =
    inr (Front.opening (notes ++ (line ∷ [])), each_more (λ l. is_note l ≡ true) notes line h ((notes_read line).0 e), refl)
first-judged notes line off h e = off-place (Front.opening notes) line

-- A line after the signal.
second-judged : (before : List (List ℕ)) (xs : List ℤ) (between : List (List ℕ)) (line : List ℕ) (f : Form)
    → FrontInOrder (Front.with_signal before xs between) → form_of line ≡ f → Judged (Front.with_signal before xs between) line (second_checks f)
second-judged before xs between line (signal ys) h e = off-place (Front.with_signal before xs between) line
second-judged before xs between line (limit k) h e =
    let r = read_back line (limit k) refl e in
    by-checks (Front.with_signal before xs between) line (second_checks (limit k)) refl
    (λ g. ⊎_elim (λ a. absurd (let z : ◌≡◌ {A = ℕ} 3 4 = a.1 in omega arith)) (λ a. a.1) g)
    (λ z.
    let a = passed (check 3 (valid_limit k)) [] (omega arith) z in (
      Front.with_limit before xs between k Weighing.none [],
      (h.0, h.1, h.2, a.0, tt, tt),
      sym (append_assoc before (form_text (signal xs) ∷ between) (form_text (limit k) ∷ []))
          ∙ ap (λ (l : List ℕ). (before ++ (form_text (signal xs) ∷ between)) ++ (l ∷ [])) (sym r.1),
    ))
second-judged before xs between line (weights ws) h e = off-place (Front.with_signal before xs between) line
second-judged before xs between line (penalty p q) h e = off-place (Front.with_signal before xs between) line
second-judged before xs between line note h e = inr (
  Front.with_signal before xs (between ++ (line ∷ [])),
  (h.0, h.1, each_more (λ l. is_note l ≡ true) between line h.2 ((notes_read line).0 e)),
  sym (append_assoc before (form_text (signal xs) ∷ between) (line ∷ [])),
)
second-judged before xs between line off h e = off-place (Front.with_signal before xs between) line

-- A line after the limit.
module _ (before : List (List ℕ)) (xs : List ℤ) (between : List (List ℕ)) (k : ℕ) where
  -- The lines up to the limit, and others.
  abbrev after : List (List ℕ) → List (List ℕ)
  after lines = before ++ (form_text (signal xs) ∷ (between ++ (form_text (limit k) ∷ lines)))

  after-append : (lines more : List (List ℕ)) → after (lines ++ more) ≡ after lines ++ more
  after-append lines more =
      let to = form_text (limit k) ∷ lines in
      ap (λ (ls : List (List ℕ)). before ++ (form_text (signal xs) ∷ ls)) (sym (append_assoc between to more))
      ∙ sym (append_assoc before (form_text (signal xs) ∷ (between ++ to)) more)

  -- One more note or penalty.
  grown-later : (w : Weighing) (later : List Later) (l : Later) → FrontInOrder (Front.with_limit before xs between k w later) → Lawful l
      → Grown (Front.with_limit before xs between k w later) (later_line l)
  grown-later w later l h p = (
    Front.with_limit before xs between k w (later ++ (l ∷ [])),
    (h.0, h.1, h.2, h.3, h.4, each_more Lawful later l h.5 p),
    ap (λ (ls : List (List ℕ)). after (weighing_lines w ++ ls)) (map_app later_line later (l ∷ []))
        ∙ ap after (sym (append_assoc (weighing_lines w) (map later_line later) (later_line l ∷ [])))
        ∙ after-append (weighing_lines w ++ map later_line later) (later_line l ∷ []),
  )

  -- Weights, where there are none yet and no penalty.
  grown-weights : (later : List Later) (ws : List ℕ) → FrontInOrder (Front.with_limit before xs between k Weighing.none later) → asks later ≡ false
      → refusal_of (weighing_checks k Weighing.none false ws) ≡ 0
      → Grown (Front.with_limit before xs between k Weighing.none later) (form_text (weights ws))
  grown-weights later ws h n z =
      let a = passed (check 14 (leb 1 (length ws))) (check 5 (all_in_range ws) ∷ check 14 (fitting ws k) ∷ []) (omega arith) z in
      let b = passed (check 5 (all_in_range ws)) (check 14 (fitting ws k) ∷ []) (omega arith) a.1 in
      let c = passed (check 14 (fitting ws k)) [] (omega arith) b.1 in
      let notes = map later_line later in (
        Front.with_limit before xs between k (Weighing.weighted notes ws) [],
        (h.0, h.1, h.2, h.3, (notes-only later n h.5, leb-true 1 (length ws) a.0, b.0, c.0), tt),
        ap after (append-nil (notes ++ (form_text (weights ws) ∷ []))) ∙ after-append notes (form_text (weights ws) ∷ []),
      )

  weights-judged : (w : Weighing) (later : List Later) (line ws : List ℕ) → FrontInOrder (Front.with_limit before xs between k w later)
      → line ≡ form_text (weights ws) → Judged (Front.with_limit before xs between k w later) line (weighing_checks k w (asks later) ws)
  weights-judged Weighing.none later line ws h e = by-test (asks later) refl
    where
      by-test : (t : Bool) → asks later ≡ t → Judged (Front.with_limit before xs between k Weighing.none later) line (weighing_checks k Weighing.none t ws)
      by-test true z = off-place (Front.with_limit before xs between k Weighing.none later) line
      by-test false z =
          by-checks (Front.with_limit before xs between k Weighing.none later) line (weighing_checks k Weighing.none false ws) refl
          (λ g. ⊎_elim (λ a. absurd (let y : ◌≡◌ {A = ℕ} 14 4 = a.1 in omega arith)) (λ a. no-four 5 14 (all_in_range ws) (fitting ws k) (λ y. omega arith) (λ y. omega arith) a.1) g)
          (λ y. subst (Grown (Front.with_limit before xs between k Weighing.none later)) (sym e) (grown-weights later ws h z y))
  weights-judged (Weighing.weighted notes vs) later line ws h e = off-place (Front.with_limit before xs between k (Weighing.weighted notes vs) later) line

  third-judged : (w : Weighing) (later : List Later) (line : List ℕ) (f : Form) → FrontInOrder (Front.with_limit before xs between k w later)
      → form_of line ≡ f → Judged (Front.with_limit before xs between k w later) line (third_checks k w (asks later) f)
  third-judged w later line (signal ys) h e = off-place (Front.with_limit before xs between k w later) line
  third-judged w later line (limit l) h e = off-place (Front.with_limit before xs between k w later) line
  third-judged w later line (weights ws) h e = weights-judged w later line ws h (read_back line (weights ws) refl e).1
  third-judged w later line (penalty p q) h e =
      let r = read_back line (penalty p q) refl e in
      let front = Front.with_limit before xs between k w later in
      inr (subst (Grown front) (sym r.1) (grown-later w later (Later.at_penalty p q) h r.0))
  third-judged w later line note h e = inr (grown-later w later (Later.note line) h ((notes_read line).0 e))
  third-judged w later line off h e = off-place (Front.with_limit before xs between k w later) line

-- A line after lines in order is refused or one more of them.
line-judged : (front : Front) (line : List ℕ) → FrontInOrder front → Judged front line (line_checks front (form_of line))
line-judged (Front.opening notes) line h = first-judged notes line (form_of line) h refl
line-judged (Front.with_signal before xs between) line h = second-judged before xs between line (form_of line) h refl
line-judged (Front.with_limit before xs between k w later) line h = third-judged before xs between k w later line (form_of line) h refl

-- One more line is ended like those before it.
then-more : (lines : List (List ℕ)) (line rest : List ℕ) → lines_then rest (lines ++ (line ∷ [])) ≡ lines_then (line ++ (10 ∷ rest)) lines
unfolding lines_then
then-more [] line rest = refl
then-more (l ∷ lines) line rest = ap (λ (t : List ℕ). l ++ (10 ∷ t)) (then-more lines line rest)

-- How an input goes on after lines in order.
abbrev Covered : List ℕ → Type 0
Covered input =
    (front : Front) × (ending : Ending) × FrontInOrder front × FrontEnds front ending × (input ≡ lines_then (ending_bytes ending) (front_lines front))

-- Lines and a last one after lines in order.
covered : (lines : List (List ℕ)) (last : List ℕ) (front : Front) → Each OneLine lines → OneLine last → FrontInOrder front
    → Covered (lines_then (lines_then last lines) (front_lines front))
unfolding lines_then
covered [] [] front o one h = (front, Ending.at_end, h, tt, refl)
covered [] (b ∷ last) front o one h = (front, Ending.unended (b ∷ last), h, (one, omega arith), refl)
covered (line ∷ lines) last front o one h =
    ⊎_elim
    (λ f. (front, Ending.refused_line line (lines_then last lines) f.0, h, (o.0, f.1, f.2), refl))
    (λ g.
    subst Covered (ap (lines_then (lines_then last lines)) g.2 ∙ then-more (front_lines front) line (lines_then last lines))
    (covered lines last g.0 o.1 one g.1))
    (line-judged front line h)

-- The lines of any bytes.
pub record Lines (input : List ℕ) : Type 0 where
  pub lines : List (List ℕ)
  pub last : List ℕ
  pub ended : Each OneLine lines
  pub unended : OneLine last
  pub all : input ≡ lines_then last lines

lines_of : (input : List ℕ) → Lines input
unfolding lines_then
lines_of [] = record { lines = []; last = []; ended = tt; unended = tt; all = refl }
lines_of (b ∷ s) = by-test (eqb b 10) (eqb-true b 10) (eqb-false b 10) (lines_of s)
  where
    -- A byte before the first line.
    before-first : (b ≡ 10 → ⊥) → (lines : List (List ℕ)) (last : List ℕ) → Each OneLine lines → OneLine last → s ≡ lines_then last lines
        → Lines (b ∷ s)
    before-first n [] last o one e = record { lines = []; last = b ∷ last; ended = tt; unended = (n, one); all = ap (λ (t : List ℕ). b ∷ t) e }
    before-first n (l ∷ ls) last o one e =
        record { lines = (b ∷ l) ∷ ls; last = last; ended = ((n, o.0), o.1); unended = one; all = ap (λ (t : List ℕ). b ∷ t) e }

    by-test : (t : Bool) → (t ≡ true → b ≡ 10) → (t ≡ false → b ≡ 10 → ⊥) → Lines s → Lines (b ∷ s)
    by-test true e n r =
        record { lines = [] ∷ r.lines; last = r.last; ended = (tt, r.ended); unended = r.unended; all = λ i. e refl i ∷ r.all i }
    by-test false e n r = before-first (n refl) r.lines r.last r.ended r.unended r.all

pub every-input : EveryInput
unfolding lines_then
every-input input =
    let r = lines_of input in
    subst Covered (sym r.all) (covered r.lines r.last (Front.opening []) r.ended r.unended tt)

-- A line that opens with a word is that word and more.
opens-is : (word line : List ℕ) → opens_with word line ≡ true → (more : List ℕ) × (line ≡ word ++ more)
unfolding opens_with
opens-is word line h =
    (drop (length word) line, sym (take-append-drop (length word) line) ∙ ap (λ (t : List ℕ). t ++ drop (length word) line) (same-eq (take (length word) line) word h))

is-opening : (word more : List ℕ) → opens_with word (word ++ more) ≡ true
unfolding opens_with same
is-opening [] more = refl
is-opening (b ∷ word) more = rw (eq-eqb b b refl, is-opening word more) refl

pub waits-claim : WaitsClaim
waits-claim line = (opens, waits-too)
  where
    opens : waits line ≡ true → OpensEither line
    opens h = by-test (opens_with (bytes "(note") line) refl h
      where
        by-test : (t : Bool) → opens_with (bytes "(note") line ≡ t → (t || opens_with (bytes "(weights") line) ≡ true → OpensEither line
        by-test true e h = inl (opens-is (bytes "(note") line e)
        by-test false e h = inr (opens-is (bytes "(weights") line h)

    waits-too : OpensEither line → waits line ≡ true
    waits-too o =
        ⊎_elim
        (λ n. rw (n.1, is-opening (bytes "(note") n.0) refl)
        (λ w. rw (w.1, is-opening (bytes "(weights") w.0) (or-true (opens_with (bytes "(note") (bytes "(weights" ++ w.0))))
        o

pub printed-path-claim : PrintedPathClaim
printed-path-claim xs k ws r l e =
    let count = place_count xs k in
    let v = (and-eq-true_iff (leb 1 k) (leb k max_segments)).0 l in
    let w : Weighable ws k = weighs ws k e (omega (arith, leb-true k max_segments v.1)) in
    let sound = path-sound ws (least_losses xs 1) k count w (omega arith) in
    let low : least_losses xs 1 0 ≤ max_loss = omega (arith, least-low xs r.fit 1 0 (length xs) (omega arith) (omega (arith, r.some)) (omega arith), r.few) in
    record {
      line = refl;
      in_order = path-ordered ws (least_losses xs 1) count (weighs-fewer ws k count w (omega arith)) (omega (arith, leb-true k max_segments v.1)) low;
      winners = winners-with-skipped (report_path xs k ws) (appended ws (least_losses xs 1) count) (models_up_to xs 1 ws count) sound (tried-or-skipped xs 1 ws k count w (omega arith));
      falling = sound.falling;
    }
