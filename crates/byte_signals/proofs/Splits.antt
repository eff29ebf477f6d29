-- A split looks at the first 513 samples, which are one too many, at its weights, and at 32 places of each buffer.
use mathlib.Core.Path.{◌≡◌, refl, sym, subst}
use mathlib.Core.List.{List, [], ◌∷◌, ◌++◌}
use Prim.Native.Nat.{ℕ, ◌≤◌, min}
use native.Mathlib.Omega.{arith}
use lib.ListN.{length, replicate}
use Rattle.coding.specs.Coding.{Outcome, outcome}
use Rattle.coding.proofs.Cutting.{Cutting, first_unsigneds, first_signeds, ◌⊠◌, named_cut}
use Rattle.coding.proofs.Calls.{longer, Cut, cut_by, told}
use Rattle.path.specs.Refusal.{Check, check, refusal_of}
use Rattle.path.proofs.Cuts.{overwritten-cut, leb-take}
use Rattle.select.specs.Penalty.{valid_penalty}
use Rattle.least.specs.Segmentation.{max_segments, piece_start, piece_level, starts_of, levels_of, loss_of, least}
use Rattle.least.proofs.Counts.{count_most}
use Rattle.weights.specs.Weights.{weight_checks}
use Rattle.weights.specs.Inner.{folded}
use Rattle.signal.specs.Signal.{size_count, place_count, least_losses, signal_path, segments_at, segmentation}
use Rattle.signal.specs.SignalPath.{valid_len, room_check}
use Rattle.signal.specs.Split.{SplitBuffers, split_buffers, split_rooms, split_checks, split_refused, SplitOutcome, split_at, split_of}
use Rattle.signal.specs.declared.SplitResult.{SplitResult}
use Rattle.signal.proofs.Inputs.{splittable}
use Rattle.byte_signals.specs.Signals.{SignalNumbers, split_string_names, split_buffer_names, split_coding, split_answers, split_told, split_call}
use Rattle.byte_signals.proofs.SignalPaths.{signal_cut, few-read, path_cut}
use Rattle.byte_signals.proofs.SignalCuts.{input-cut, filled-cut, segments-few, pieces-few}
use Rattle.byte_signals.proofs.WeightCuts.{weighed-cut, accepted-weights}

abbrev pub split_cut : Cutting split_coding
split_cut = named_cut split_string_names split_buffer_names (first_unsigneds 2 max_segments ⊠ first_signeds max_segments ⊠ path_cut)

module _ (limit d p q : ℕ) where
  abbrev checks : SignalNumbers → SplitBuffers → List Check
  checks x b = split_checks (length x.samples) limit d x.weights p q (split_rooms b) (length b.path.scratch)

  abbrev accepted : SignalNumbers → SplitBuffers → SplitOutcome
  accepted x b =
      split_at x.samples d (signal_path x.samples d x.weights (size_count x.samples limit d)) (place_count x.samples limit) p q b

  abbrev left : SignalNumbers → SplitBuffers → Outcome SplitResult SplitBuffers
  left x b = split_told (accepted x b)

  abbrev cutLeft : SignalNumbers → SplitBuffers → Outcome SplitResult SplitBuffers
  cutLeft y b = longer signal_cut split_cut split_answers b (left y (split_cut.taken b))

  abbrev later : ℕ → SplitBuffers → List Check
  later n b = check 4 (valid_penalty p q) ∷ room_check (min limit n) (split_rooms b) (length b.path.scratch) ∷ []

  checks-cut : (x : SignalNumbers) (b : SplitBuffers) → refusal_of (checks (signal_cut.taken x) (split_cut.taken b)) ≡ refusal_of (checks x b)
  checks-cut x b =
      input-cut x.samples max_segments limit
      (λ n. check 13 (valid_len n d) ∷ (weight_checks (folded max_segments x.weights) limit ++ later n (split_cut.taken b)))
      (λ n. check 13 (valid_len n d) ∷ (weight_checks x.weights limit ++ later n b))
      (λ h n. weighed-cut n limit d x.weights (later n (split_cut.taken b)) (later n b) h (later-cut n h))
    where
      later-cut : (n : ℕ) → limit ≤ max_segments → refusal_of (later n (split_cut.taken b)) ≡ refusal_of (later n b)
      later-cut n h =
          rw (
            leb-take (min limit n) max_segments b.starts (omega arith),
            leb-take (min limit n) max_segments b.levels (omega arith),
            leb-take (min limit n) max_segments b.path.lists.sizes (omega arith),
            leb-take (min limit n) max_segments b.path.lists.losses (omega arith),
            leb-take (min limit n) max_segments b.path.lists.weights (omega arith),
          )

  left_cut : (x : SignalNumbers) (b : SplitBuffers) → refusal_of (checks x b) ≡ 0 → left x b ≡ cutLeft (signal_cut.taken x) b
  left_cut x b e =
      let xs = x.samples in
      let ws = x.weights in
      let ok = (splittable xs limit d ws p q b e).solvable in
      let n = size_count xs limit d in
      let most = count_most (length xs) d limit n refl in
      let path = signal_path xs d ws n in
      let k = segments_at path p q in
      let few : k ≤ max_segments = omega (arith, segments-few ws (least_losses xs d) n p q, most, ok.few) in
      let filled = filled-cut ws (least_losses xs d) n (place_count xs limit) max_segments most (omega (arith, ok.few)) b.path.lists in
      let cuts = segmentation xs d k in
      let starts = overwritten-cut (starts_of cuts) max_segments b.starts (pieces-few piece_start xs (least xs d) d k max_segments few (omega arith)) in
      let levels = overwritten-cut (levels_of cuts) max_segments b.levels (pieces-few piece_level xs (least xs d) d k max_segments few (omega arith)) in
      subst (λ (y : SignalNumbers). left x b ≡ cutLeft y b) (sym (few-read x ok.short (accepted-weights (length xs) limit d ws (later (length xs) b) e)))
      (λ i. outcome record { refusal = 0; segments = k; loss = loss_of cuts; entries = length path }
      (split_buffers (starts i) (levels i) (filled i) (replicate (length b.path.scratch) 0)))

  pub split-cut : (x : SignalNumbers) (b : SplitBuffers) → Cut signal_cut split_cut split_answers (split_call limit d p q) x b
  unfolding split_of
  split-cut x b =
      cut_by signal_cut split_cut split_answers (split_call limit d p q) checks left
      (λ x b. told split_told (checks x b) (split_refused b) (accepted x b))
      (λ x b. refl) x b (checks-cut x b) (left_cut x b)
