-- A call on a streaming signal looks at the first 513 samples, which are one too many, and at 16 places of each buffer. The table is
-- not cut.
use mathlib.Core.Path.{◌≡◌, refl, sym, subst}
use mathlib.Core.List.{List, [], ◌∷◌, ◌++◌}
use Prim.Native.Nat.{ℕ, suc, ◌≤◌, min}
use native.Mathlib.Omega.{arith}
use lib.Dec.{leb}
use lib.IntN.{ℤ}
use lib.ListN.{length, take}
use borrow.Author.Tests.{leb-true}
use Rattle.coding.specs.Coding.{Outcome, outcome}
use Rattle.coding.proofs.Cutting.{Cutting, first_unsigneds, first_signeds, all_raw, ◌⊠◌, named_cut}
use Rattle.coding.proofs.Models.{models_cut}
use Rattle.coding.proofs.Calls.{longer, Cut, cut_by, told}
use Rattle.path.specs.Model.{lengths}
use Rattle.path.specs.Refusal.{Check, check, refusal_of, room_for}
use Rattle.path.proofs.Cuts.{overwritten-cut, leb-take}
use Rattle.select.specs.Penalty.{valid_penalty}
use Rattle.layout.specs.Items.{whole_items}
use Rattle.segment.specs.Segment.{max_samples}
use Rattle.least.specs.Segmentation.{piece_start, piece_level, starts_of, levels_of, loss_of}
use Rattle.signal.specs.Signal.{place_count, segments_at}
use Rattle.stream.specs.Table.{max_rows, value, with_column, column_losses}
use Rattle.stream.specs.Extend.{StreamBuffers, stream_buffers, table_checks, extend_checks, column_path, extend_refused, ExtendOutcome, extended_to, extend_of}
use Rattle.stream.specs.SplitFrom.{SegmentBuffers, segment_buffers, split_from_checks, split_from_refused, table_segmentation, split_into, split_from_of}
use Rattle.stream.specs.declared.ExtendResult.{ExtendResult}
use Rattle.stream.specs.declared.SplitFromResult.{SplitFromResult}
use Rattle.stream.proofs.Cases.{extendable, splittable}
use Rattle.byte_signals.specs.Inner.{read_samples}
use Rattle.byte_signals.proofs.SignalCuts.{few-samples, check-cut, limit-cut, input-cut, filled-cut, segments-few, pieces-few}
use Rattle.byte_signals.proofs.SignalPaths.{samples_cut}
use Rattle.byte_streams.specs.Streams.{stream_names, stream_coding, extend_answers, extend_told, extend_call, segment_string_names, segment_buffer_names, segments_coding, split_from_answers, split_from_told, split_from_call}

abbrev pub stream_cut : Cutting stream_coding
stream_cut = named_cut stream_names stream_names (all_raw ⊠ models_cut max_rows)

module _ (x : ℤ) (limit : ℕ) where
  abbrev checks : List ℤ → StreamBuffers → List Check
  checks xs b = extend_checks (length xs) limit b.table (lengths b.path)

  abbrev accepted : List ℤ → StreamBuffers → ExtendOutcome
  accepted xs b = extended_to (xs ++ (x ∷ [])) limit b

  abbrev left : List ℤ → StreamBuffers → Outcome ExtendResult StreamBuffers
  left xs b = extend_told (accepted xs b)

  abbrev cutLeft : List ℤ → StreamBuffers → Outcome ExtendResult StreamBuffers
  cutLeft ys b = longer samples_cut stream_cut extend_answers b (left ys (stream_cut.taken b))

  checks-cut : (xs : List ℤ) (b : StreamBuffers) → refusal_of (checks (take read_samples xs) (stream_cut.taken b)) ≡ refusal_of (checks xs b)
  checks-cut xs b =
      check-cut (check 11 (whole_items 8 b.table)) _ _
      (λ _. limit-cut (λ n. leb (suc n) max_samples) (λ n h. omega (arith, leb-true (suc n) max_samples h)) xs max_rows limit
      (rooms (stream_cut.taken b)) (rooms b)
      (λ h n. rw (
        leb-take (min limit (suc n)) max_rows b.path.sizes (omega arith),
        leb-take (min limit (suc n)) max_rows b.path.losses (omega arith),
        leb-take (min limit (suc n)) max_rows b.path.weights (omega arith),
      )))
    where
      rooms : StreamBuffers → ℕ → List Check
      rooms d n = table_checks d.table n ++ (check 9 (room_for (min limit (suc n)) (lengths d.path)) ∷ [])

  left_cut : (xs : List ℤ) (b : StreamBuffers) → refusal_of (checks xs b) ≡ 0 → left xs b ≡ cutLeft (take read_samples xs) b
  left_cut xs b e =
      let ok = extendable (length xs) limit b.table b.path e in
      let ys = xs ++ (x ∷ []) in
      let table = with_column ys b.table max_rows in
      let n = min limit (length ys) in
      let filled = filled-cut [] (column_losses table (length ys)) n n max_rows (omega arith) (omega (arith, ok.few)) b.path in
      subst (λ (zs : List ℤ). left xs b ≡ cutLeft zs b) (sym (few-samples xs (omega (arith, ok.short))))
      (λ i. outcome record { refusal = 0; entries = length (column_path table (length ys) n) } (stream_buffers table (filled i)))

  pub extend_cut : (xs : List ℤ) (b : StreamBuffers) → Cut samples_cut stream_cut extend_answers (extend_call x limit) xs b
  unfolding extend_of
  extend_cut xs b =
      cut_by samples_cut stream_cut extend_answers (extend_call x limit) checks left
      (λ xs b. told extend_told (checks xs b) (extend_refused b) (accepted xs b))
      (λ xs b. refl) xs b (checks-cut xs b) (left_cut xs b)

abbrev pub segments_cut : Cutting segments_coding
segments_cut = named_cut segment_string_names segment_buffer_names (first_unsigneds 2 max_rows ⊠ first_signeds max_rows)

module _ (limit p q : ℕ) (table : List ℕ) where
  abbrev split_rooms : SegmentBuffers → List ℕ
  split_rooms b = length b.starts ∷ length b.levels ∷ []

  abbrev split_checks : List ℤ → SegmentBuffers → List Check
  split_checks xs b = split_from_checks (length xs) limit p q table (split_rooms b)

  abbrev segmentsFor : List ℤ → ℕ
  segmentsFor xs = segments_at (column_path table (length xs) (place_count xs limit)) p q

  abbrev split_left : List ℤ → SegmentBuffers → Outcome SplitFromResult SegmentBuffers
  split_left xs b = split_from_told (split_into xs table (segmentsFor xs) b)

  abbrev splitCutLeft : List ℤ → SegmentBuffers → Outcome SplitFromResult SegmentBuffers
  splitCutLeft ys b = longer samples_cut segments_cut split_from_answers b (split_left ys (segments_cut.taken b))

  split-checks-cut : (xs : List ℤ) (b : SegmentBuffers) → refusal_of (split_checks (take read_samples xs) (segments_cut.taken b)) ≡ refusal_of (split_checks xs b)
  split-checks-cut xs b =
      check-cut (check 11 (whole_items 8 table)) _ _
      (λ _. input-cut xs max_rows limit (rooms (segments_cut.taken b)) (rooms b)
      (λ h n. rw (leb-take (min limit n) max_rows b.starts (omega arith), leb-take (min limit n) max_rows b.levels (omega arith))))
    where
      rooms : SegmentBuffers → ℕ → List Check
      rooms d n = table_checks table n ++ (check 4 (valid_penalty p q) ∷ check 9 (room_for (min limit n) (split_rooms d)) ∷ [])

  split-left-cut : (xs : List ℤ) (b : SegmentBuffers) → refusal_of (split_checks xs b) ≡ 0 → split_left xs b ≡ splitCutLeft (take read_samples xs) b
  split-left-cut xs b e =
      let ok = splittable (length xs) limit p q table (length b.starts) (length b.levels) e in
      let n = place_count xs limit in
      let k = segmentsFor xs in
      let few : k ≤ max_rows = omega (arith, segments-few [] (column_losses table (length xs)) n p q, ok.few) in
      let cuts = table_segmentation xs table k in
      let starts = overwritten-cut (starts_of cuts) max_rows b.starts (pieces-few piece_start xs (value table) 1 k max_rows few (omega arith)) in
      let levels = overwritten-cut (levels_of cuts) max_rows b.levels (pieces-few piece_level xs (value table) 1 k max_rows few (omega arith)) in
      subst (λ (zs : List ℤ). split_left xs b ≡ splitCutLeft zs b) (sym (few-samples xs ok.short))
      (λ i. outcome record { refusal = 0; segments = k; loss = loss_of cuts } (segment_buffers (starts i) (levels i)))

  pub split-from-cut : (xs : List ℤ) (b : SegmentBuffers) → Cut samples_cut segments_cut split_from_answers (split_from_call limit p q table) xs b
  unfolding split_from_of
  split-from-cut xs b =
      cut_by samples_cut segments_cut split_from_answers (split_from_call limit p q table) split_checks split_left
      (λ xs b. told split_from_told (split_checks xs b) (split_from_refused b) (split_into xs table (segmentsFor xs) b))
      (λ xs b. refl) xs b (split-checks-cut xs b) (split-left-cut xs b)
