-- `least::all_rows` meets its contract. A step goes by the row as it is kept, with its floors, and changes bytes past the rows of the
-- table that are done alone.
use Rattle.std.proofs.Common.{◌≡◌, sym, ◌∙◌, subst, ℕ, suc, ◌+◌, ◌*◌, ◌-◌, ◌≤◌, ◌<◌, List, ℤ, length, get_or, set, arith, length-set, add-one, below_more}
use Rattle.layout.proofs.Laws.{item-agrees}
use Rattle.segment.specs.Segment.{max_samples}
use Rattle.segment.specs.Inner.{squares_to}
use Rattle.segment.proofs.Cells.{cell-more}
use Rattle.least.specs.Segmentation.{least}
use Rattle.least.specs.Inner.{start_place, RowIs, StartsAre, NextRow}
use Rattle.least.proofs.LeastLosses.{least-low}
use Rattle.least.proofs.Counts.{fewer-take}
use Rattle.least.proofs.all_rows.Invariants.{Done}
use Rattle.least.proofs.all_rows.Goals as goal

-- What a row's last cell leaves of all squares is the least loss over the whole signal.
last-loss : {xs : List ℤ} {d m all : ℕ} {row : List ℕ} → RowIs xs d m row → all ≡ squares_to xs (length xs) → suc m * d ≤ length xs → all - get_or row (length xs) 0 ≡ least xs d m (length xs)
last-loss {xs} r e h = omega (arith, r.is (length xs) h (omega arith))

-- Rows of the table before m stay where the bytes before them stay.
starts-kept : {xs : List ℤ} {d t m : ℕ} {before after : List ℕ} → StartsAre xs d t before → t < m → length xs ≤ max_samples → ((i : ℕ) → i < start_place m 1 → get_or after i 0 ≡ get_or before i 0) → StartsAre xs d t after
starts-kept {xs} {d} {t} {m} {before} {after} s h short kept = record {
  are = λ j l u. item-agrees 2 after before (start_place t j) (λ i a b. kept i (omega arith)) ∙ s.are j l u;
}

-- A turn does one row more.
done-step : {xs : List ℤ} {d m all : ℕ} {row row' losses scratch scratch' : List ℕ} → Done xs d m row losses scratch → NextRow xs d m row' scratch scratch' → length xs ≤ max_samples → all ≡ squares_to xs (length xs) → suc (suc m) * d ≤ length xs → m + 1 < length losses
    → Done xs d (m + 1) row' (set losses (m + 1) (all - get_or row' (length xs) 0)) scratch'
done-step {xs} {d} {m} {all} {row' = row'} {losses = losses} {scratch' = scratch'} g r short e enough room =
    let row-is' : RowIs xs d (m + 1) row' = subst (λ (m : ℕ). RowIs xs d m row') (sym (add-one m)) r.row_is in
    record {
      row_is = row-is';
      losses_are = cell-more (λ (t v : ℕ). v ≡ least xs d t (length xs)) (m + 1) _ losses g.losses_are room (last-loss row-is' e (omega arith));
      starts_are = below_more (λ (t : ℕ). StartsAre xs d t scratch') m (λ t u. starts-kept (g.starts_are t u) u short r.kept) r.starts_are;
    }

pub next_row-requires : goal.next_row-requires
next_row-requires c = record {
  few = omega (arith, c.requires.few);
  more = omega (arith, fewer-take c.args.signal.now.min_segment_len {i = suc (suc c.loop-m.m)} {n = c.args.k} (omega arith), c.requires.enough);
  room_old = omega arith;
  room_floors = omega arith;
  room_row = omega arith;
  len_scratch = omega arith;
  old_is = c.keep_row.ensures.old_is;
  floors_are = c.keep_row.ensures.floors_are;
}

pub overflow_sub-losses-in-loop-m : goal.overflow_sub-losses-in-loop-m
overflow_sub-losses-in-loop-m c =
    let n = length c.args.signal.now.gains.samples.now in
    let enough = fewer-take c.args.signal.now.min_segment_len {i = suc (suc c.loop-m.m)} {n = c.args.k} (omega arith) in
    omega (arith, c.next_row.ensures.row_is.is n (omega (arith, c.requires.enough)) (omega arith), c.args.signal.now.squares_are.are n (omega arith))

pub loop-m-preserved : goal.loop-m-preserved
loop-m-preserved c =
    let s = c.args.signal.now in
    let enough = fewer-take s.min_segment_len {i = suc (suc c.loop-m.m)} {n = c.args.k} (omega arith) in
    done-step c.loop-m.invariant c.next_row.ensures (omega arith) (s.squares_are.are (length s.gains.samples.now) (omega arith)) (omega (arith, c.requires.enough)) (omega (arith, length-set {A = ℕ}))

pub returns : goal.returns
returns c =
    let s = c.args.signal.now in
    let g = c.loop-m.invariant in
    let n = length s.gains.samples.now in
    record {
      fit = s.gains.ready.summed.fit;
      losses_are = λ t u. g.losses_are t (omega arith);
      losses_low = λ t u. omega (arith, least-low s.gains.samples.now s.gains.ready.summed.fit s.min_segment_len t n s.one (omega (arith, fewer-take s.min_segment_len {i = suc t} {n = c.args.k} (omega arith), c.requires.enough)) (omega arith));
      starts_are = λ t u. g.starts_are t (omega arith);
    }
