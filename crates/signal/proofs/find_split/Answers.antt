-- `signal::find_split` meets its contract: refused, or solved, segmented at the penalty, and the scratch cleared.
use mathlib.Core.Path.{◌≡◌, ap, sym, ◌∙◌}
use Prim.Native.Nat.{ℕ}
use native.Mathlib.Omega.{arith}
use lib.ListN.{length, replicate}
use Rattle.std.proofs.lemmas.Result.{err_from_is_err_and}
use Rattle.std.proofs.lemmas.Option.{MatchOption-at_some, MatchOption-at_none}
use Rattle.std.specs.Prelude.{None}
use Rattle.path.specs.declared.refusal.Refusal.TheVariants as refusal
use Rattle.path.specs.Model.{lists}
use Rattle.path.specs.Numbers.{number_of}
use Rattle.signal.specs.Signal.{size_count, place_count}
use Rattle.weights.proofs.Steps.{weighs-fewer}
use Rattle.signal.specs.SignalPath.{path_buffers}
use Rattle.signal.specs.Split.{SplitBuffers, split_buffers, split_rooms}
use Rattle.signal.proofs.Inputs.{room-passed, room-from}
use Rattle.signal.proofs.Cases.{split-by-input, split-by-penalty, split-by-room, split-passes, may-segment, split_done}
use Rattle.signal.proofs.find_split.Goals as goal

pub returns-in_err-signal-clause-outcome : goal.returns-in_err-signal-clause-outcome
returns-in_err-signal-clause-outcome c =
    let a = c.args in
    let b : SplitBuffers = split_buffers a.starts.now a.levels.now (lists a.path_sizes.now a.path_losses.now a.path_weights.now) a.scratch.now in
    let p = err_from_is_err_and c.from_residual.result c.from_residual.ensures.1 in
    split-by-input a.samples.now a.max_segments a.min_segment_len a.weights.now a.p a.q b c.from_residual.result p.0 p.1 (ap number_of p.2 ∙ c.in_err-signal.ensures.checks)

pub returns-in_err-penalty-clause-outcome : goal.returns-in_err-penalty-clause-outcome
returns-in_err-penalty-clause-outcome c =
    let a = c.args in
    let b : SplitBuffers = split_buffers a.starts.now a.levels.now (lists a.path_sizes.now a.path_losses.now a.path_weights.now) a.scratch.now in
    let f = c.from_residual-in_err-penalty in
    let p = err_from_is_err_and f.result f.ensures.1 in
    let none : c.new.result ≡ None = c.in_err-penalty.ensures.ok_part in
    let why : c.in_err-penalty.field-0.0 ≡ refusal.Penalty = let v = rw none at c.in_err-penalty.ensures.value in cc in
    split-by-penalty a.samples.now a.max_segments a.min_segment_len a.weights.now a.p a.q b c.in_ok-signal.ensures.checks f.result p.0 p.1 (p.2 ∙ why) (MatchOption-at_none _ _ none c.new.ensures)

pub returns-in_err-check_room-clause-outcome : goal.returns-in_err-check_room-clause-outcome
returns-in_err-check_room-clause-outcome c =
    let a = c.args in
    let b : SplitBuffers = split_buffers a.starts.now a.levels.now (lists a.path_sizes.now a.path_losses.now a.path_weights.now) a.scratch.now in
    let s = c.in_ok-signal.ensures in
    let x = MatchOption-at_some _ _ c.in_ok-penalty.penalty c.in_ok-penalty.ensures.ok_part c.new.ensures in
    let f = c.from_residual-in_err-check_room in
    let p = err_from_is_err_and f.result f.ensures.1 in
    let places : c.places.result ≡ place_count a.samples.now a.max_segments = rw (← s.signal.0, ← s.signal.1) c.places.ensures in
    split-by-room a.samples.now a.max_segments a.min_segment_len a.weights.now a.p a.q b s.checks x.0 c.places.result places f.result p.0 p.1 (ap number_of p.2 ∙ c.in_err-check_room.ensures)

pub make_path-entries-requires-clause-weighable : goal.make_path-entries-requires-clause-weighable
make_path-entries-requires-clause-weighable c =
    let s = c.in_ok-signal.signal in
    let e = c.in_ok-signal.ensures.signal in
    weighs-fewer c.args.weights.now c.args.max_segments (size_count s.samples.now s.max_segments s.min_segment_len) e.3 (omega (arith, e.1, s.in_range.one_sample))

pub make_path-entries-requires-clause-room : goal.make_path-entries-requires-clause-room
make_path-entries-requires-clause-room c =
    let a = c.args in
    let b : SplitBuffers = split_buffers a.starts.now a.levels.now (lists a.path_sizes.now a.path_losses.now a.path_weights.now) a.scratch.now in
    let s = c.in_ok-signal.signal in
    let r = room-passed c.places.result (split_rooms b) (length b.path.scratch) (sym c.in_ok-check_room.ensures) in
    room-from s.samples.now s.max_segments c.places.result b.path c.places.ensures r.0.1.1 r.1

pub segment_at-found-requires : goal.segment_at-found-requires
segment_at-found-requires c =
    let a = c.args in
    let b : SplitBuffers = split_buffers a.starts.now a.levels.now (lists a.path_sizes.now a.path_losses.now a.path_weights.now) a.scratch.now in
    let s = c.in_ok-signal.signal in
    let m = c.make_path-entries in
    let r = room-passed c.places.result (split_rooms b) (length b.path.scratch) (sym c.in_ok-check_room.ensures) in
    may-segment s.samples.now s.max_segments s.min_segment_len a.weights.now a.p a.q b (path_buffers (lists m.new.path_sizes m.new.path_losses m.new.path_weights) m.new.scratch) m.result m.ensures
    (omega (arith, c.places.ensures, r.0.0)) (omega (arith, c.places.ensures, r.0.1.0))

pub returns-clause-outcome : goal.returns-clause-outcome
returns-clause-outcome c =
    let a = c.args in
    let b : SplitBuffers = split_buffers a.starts.now a.levels.now (lists a.path_sizes.now a.path_losses.now a.path_weights.now) a.scratch.now in
    let s = c.in_ok-signal.ensures in
    let m = c.make_path-entries in
    let g = c.segment_at-found in
    let x = MatchOption-at_some _ _ c.in_ok-penalty.penalty c.in_ok-penalty.ensures.ok_part c.new.ensures in
    let places : c.places.result ≡ place_count a.samples.now a.max_segments = rw (← s.signal.0, ← s.signal.1) c.places.ensures in
    split_done a.samples.now a.max_segments a.min_segment_len a.weights.now a.p a.q b
    (path_buffers (lists m.new.path_sizes m.new.path_losses m.new.path_weights) m.new.scratch) m.result
    (rw (s.signal.0, s.signal.1, s.signal.2) at m.ensures)
    (split-passes a.samples.now a.max_segments a.min_segment_len a.weights.now a.p a.q b s.checks x.0 c.places.result places c.in_ok-check_room.ensures)
    _ _ _ g.result (rw (s.signal.0, s.signal.2, x.1, x.2) at g.ensures)
    (c.clear_bytes.ensures ∙ ap (λ (k : ℕ). replicate k 0) m.auto.scratch)
