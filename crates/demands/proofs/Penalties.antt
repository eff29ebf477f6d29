-- At equal fractions a path gives the same number of segments, so that a split from a table is the same. A call on bytes is then the same
-- because the call on numbers is.
use mathlib.Core.Path.{sym, ◌∙◌}
use mathlib.Core.List.{List}
use Prim.Native.Nat.{ℕ}
use lib.IntN.{ℤ}
use lib.ListN.{length}
use Rattle.coding.specs.Coding.{outcome, none, signeds, on_bytes}
use Rattle.coding.specs.Models.{models_coding}
use Rattle.hull.proofs.Penalties.{same-penalty-claim}
use Rattle.models.specs.Entries.{lists_in}
use Rattle.signal.specs.Signal.{place_count}
use Rattle.stream.specs.Extend.{column_path}
use Rattle.stream.specs.SplitFrom.{SegmentBuffers, split_into, split_from_of}
use Rattle.byte_paths.specs.Paths.{select_answers}
use Rattle.byte_signals.specs.Signals.{signal_coding, split_coding, split_answers, split_told}
use Rattle.byte_streams.specs.Streams.{segments_coding, split_from_answers, split_from_told}
use Rattle.demands.specs.Penalties.{GoesByValue, SamePenalties}
use Rattle.demands.proofs.Signals.{same-segments, same-split}

same-from-table : (xs : List ℤ) (limit : ℕ) (t : List ℕ) (b : SegmentBuffers) → GoesByValue (λ p q. split_from_of xs limit p q t b)
unfolding split_from_of
same-from-table xs limit t b p q p' q' v v' e =
    rw (v, v', split_into, same-segments (column_path t (length xs) (place_count xs limit)) p q p' q' v v' e)

pub same-penalties : SamePenalties
same-penalties =
    record {
      select = λ t n p q p' q' v v' e. same-penalty-claim t n p q p' q' v v' e;
      split = same-split;
      split_from = same-from-table;
      byte_select = λ x n p q p' q' v v' e i.
          (on_bytes models_coding none select_answers (λ y nothing. outcome (same-penalty-claim y n p q p' q' v v' e i) nothing) x tt).answer;
      byte_split = λ x limit d b p q p' q' v v' e i.
          on_bytes signal_coding split_coding split_answers (λ y c. split_told (same-split y.samples limit d y.weights c p q p' q' v v' e i)) x b;
      byte_split_from = λ samples limit t b p q p' q' v v' e i.
          on_bytes signeds segments_coding split_from_answers (λ xs c. split_from_told (same-from-table xs limit t c p q p' q' v v' e i)) samples b;
      entry_select = λ list n answers allowed p q p' q' v v' e.
          allowed p q ∙ same-penalty-claim (lists_in list) n p q p' q' v v' e ∙ sym (allowed p' q');
    }
