-- A path call looks at the first 513 samples, which are one too many, at its weights, and at 32 places of each buffer.
use mathlib.Core.Path.{◌≡◌, refl, sym, subst}
use mathlib.Core.List.{List, [], ◌∷◌, ◌++◌}
use Prim.Native.Nat.{ℕ, ◌≤◌, min}
use native.Mathlib.Omega.{arith}
use lib.ListN.{length, replicate}
use Rattle.coding.specs.Coding.{Outcome, outcome, signeds}
use Rattle.coding.proofs.Cutting.{Cutting, first_signeds, all_raw, ◌⊠◌, named_cut}
use Rattle.coding.proofs.Models.{models_cut}
use Rattle.coding.proofs.Calls.{longer, Cut, cut_by, told}
use Rattle.path.specs.Refusal.{Check, check, refusal_of}
use Rattle.path.proofs.Cuts.{leb-take}
use Rattle.segment.specs.Segment.{max_samples}
use Rattle.least.specs.Segmentation.{max_segments}
use Rattle.least.proofs.Counts.{count_most}
use Rattle.weights.specs.Weights.{weight_checks}
use Rattle.weights.specs.Inner.{folded}
use Rattle.signal.specs.Signal.{size_count, place_count, least_losses, signal_path}
use Rattle.signal.specs.SignalPath.{PathBuffers, path_buffers, path_rooms, valid_len, room_check, signal_path_checks, signal_path_refused, SignalPathOutcome, signal_path_left, signal_path_of}
use Rattle.signal.specs.declared.SignalPathResult.{SignalPathResult}
use Rattle.signal.proofs.Inputs.{path-solvable}
use Rattle.byte_signals.specs.Signals.{SignalNumbers, signal_numbers, signal_string_names, signal_number_names, signal_coding, path_names, path_coding, signal_path_answers, signal_path_told, signal_path_call}
use Rattle.byte_signals.specs.Inner.{read_samples}
use Rattle.byte_signals.proofs.SignalCuts.{few-samples, input-cut, filled-cut}
use Rattle.byte_signals.proofs.WeightCuts.{weights_cut, weighed-cut, accepted-weights}

abbrev pub samples_cut : Cutting signeds
samples_cut = first_signeds read_samples

abbrev pub signal_cut : Cutting signal_coding
signal_cut = named_cut signal_string_names signal_number_names (samples_cut ⊠ weights_cut)

-- What an accepted call reads is not cut.
pub few-read : (x : SignalNumbers) → length x.samples ≤ max_samples → folded max_segments x.weights ≡ x.weights → signal_cut.taken x ≡ x
few-read x few same = λ i. signal_numbers (few-samples x.samples few i) (same i)

abbrev pub path_cut : Cutting path_coding
path_cut = named_cut path_names path_names (models_cut max_segments ⊠ all_raw)

module _ (limit d : ℕ) where
  abbrev checks : SignalNumbers → PathBuffers → List Check
  checks x b = signal_path_checks (length x.samples) limit d x.weights (path_rooms b) (length b.scratch)

  abbrev accepted : SignalNumbers → PathBuffers → SignalPathOutcome
  accepted x b =
      signal_path_left (signal_path x.samples d x.weights (size_count x.samples limit d)) (place_count x.samples limit) b

  abbrev left : SignalNumbers → PathBuffers → Outcome SignalPathResult PathBuffers
  left x b = signal_path_told (accepted x b)

  abbrev cutLeft : SignalNumbers → PathBuffers → Outcome SignalPathResult PathBuffers
  cutLeft y b = longer signal_cut path_cut signal_path_answers b (left y (path_cut.taken b))

  abbrev rooms : ℕ → PathBuffers → List Check
  rooms n b = room_check (min limit n) (path_rooms b) (length b.scratch) ∷ []

  checks-cut : (x : SignalNumbers) (b : PathBuffers) → refusal_of (checks (signal_cut.taken x) (path_cut.taken b)) ≡ refusal_of (checks x b)
  checks-cut x b =
      input-cut x.samples max_segments limit
      (λ n. check 13 (valid_len n d) ∷ (weight_checks (folded max_segments x.weights) limit ++ rooms n (path_cut.taken b)))
      (λ n. check 13 (valid_len n d) ∷ (weight_checks x.weights limit ++ rooms n b))
      (λ h n. weighed-cut n limit d x.weights (rooms n (path_cut.taken b)) (rooms n b) h (rooms-cut n h))
    where
      rooms-cut : (n : ℕ) → limit ≤ max_segments → refusal_of (rooms n (path_cut.taken b)) ≡ refusal_of (rooms n b)
      rooms-cut n h =
          rw (
            leb-take (min limit n) max_segments b.lists.sizes (omega arith),
            leb-take (min limit n) max_segments b.lists.losses (omega arith),
            leb-take (min limit n) max_segments b.lists.weights (omega arith),
          )

  left_cut : (x : SignalNumbers) (b : PathBuffers) → refusal_of (checks x b) ≡ 0 → left x b ≡ cutLeft (signal_cut.taken x) b
  left_cut x b e =
      let xs = x.samples in
      let ws = x.weights in
      let ok = path-solvable xs limit d ws b e in
      let k = size_count xs limit d in
      let most = count_most (length xs) d limit k refl in
      let filled = filled-cut ws (least_losses xs d) k (place_count xs limit) max_segments most (omega (arith, ok.few)) b.lists in
      subst (λ (y : SignalNumbers). left x b ≡ cutLeft y b) (sym (few-read x ok.short (accepted-weights (length xs) limit d ws (rooms (length xs) b) e)))
      (λ i. outcome record { refusal = 0; entries = length (signal_path xs d ws k) } (path_buffers (filled i) (replicate (length b.scratch) 0)))

  pub signal-path-cut : (x : SignalNumbers) (b : PathBuffers) → Cut signal_cut path_cut signal_path_answers (signal_path_call limit d) x b
  unfolding signal_path_of
  signal-path-cut x b =
      cut_by signal_cut path_cut signal_path_answers (signal_path_call limit d) checks left
      (λ x b. told signal_path_told (checks x b) (signal_path_refused b) (accepted x b))
      (λ x b. refl) x b (checks-cut x b) (left_cut x b)
