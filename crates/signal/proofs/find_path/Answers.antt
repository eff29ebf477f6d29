-- `signal::find_path` meets its contract: refused, or solved and the scratch cleared.
use mathlib.Core.Path.{◌≡◌, ap, sym, ◌∙◌}
use Prim.Native.Nat.{ℕ}
use native.Mathlib.Omega.{arith}
use lib.ListN.{length, replicate}
use Rattle.std.proofs.lemmas.Result.{err_from_is_err_and}
use Rattle.path.specs.Model.{lists}
use Rattle.path.specs.Numbers.{number_of}
use Rattle.signal.specs.Signal.{size_count, place_count}
use Rattle.weights.proofs.Steps.{weighs-fewer}
use Rattle.signal.specs.SignalPath.{PathBuffers, path_buffers, path_rooms}
use Rattle.signal.proofs.Inputs.{room-passed, room-from}
use Rattle.signal.proofs.Cases.{path-by-input, path-by-room, path-passes, path-done}
use Rattle.signal.proofs.find_path.Goals as goal

pub returns-in_err-signal-clause-outcome : goal.returns-in_err-signal-clause-outcome
returns-in_err-signal-clause-outcome c =
    let a = c.args in
    let b : PathBuffers = path_buffers (lists a.path_sizes.now a.path_losses.now a.path_weights.now) a.scratch.now in
    let p = err_from_is_err_and c.from_residual.result c.from_residual.ensures.1 in
    path-by-input a.samples.now a.max_segments a.min_segment_len a.weights.now b c.from_residual.result p.0 p.1 (ap number_of p.2 ∙ c.in_err-signal.ensures.checks)

pub returns-in_err-check_room-clause-outcome : goal.returns-in_err-check_room-clause-outcome
returns-in_err-check_room-clause-outcome c =
    let a = c.args in
    let b : PathBuffers = path_buffers (lists a.path_sizes.now a.path_losses.now a.path_weights.now) a.scratch.now in
    let s = c.in_ok-signal.ensures in
    let f = c.from_residual-in_err-check_room in
    let p = err_from_is_err_and f.result f.ensures.1 in
    let places : c.places.result ≡ place_count a.samples.now a.max_segments = rw (← s.signal.0, ← s.signal.1) c.places.ensures in
    path-by-room a.samples.now a.max_segments a.min_segment_len a.weights.now b s.checks c.places.result places f.result p.0 p.1 (ap number_of p.2 ∙ c.in_err-check_room.ensures)

pub make_path-entries-requires-clause-weighable : goal.make_path-entries-requires-clause-weighable
make_path-entries-requires-clause-weighable c =
    let s = c.in_ok-signal.signal in
    let e = c.in_ok-signal.ensures.signal in
    weighs-fewer c.args.weights.now c.args.max_segments (size_count s.samples.now s.max_segments s.min_segment_len) e.3 (omega (arith, e.1, s.in_range.one_sample))

pub make_path-entries-requires-clause-room : goal.make_path-entries-requires-clause-room
make_path-entries-requires-clause-room c =
    let a = c.args in
    let b : PathBuffers = path_buffers (lists a.path_sizes.now a.path_losses.now a.path_weights.now) a.scratch.now in
    let s = c.in_ok-signal.signal in
    let r = room-passed c.places.result (path_rooms b) (length b.scratch) (sym c.in_ok-check_room.ensures) in
    room-from s.samples.now s.max_segments c.places.result b c.places.ensures r.0 r.1

pub returns-clause-outcome : goal.returns-clause-outcome
returns-clause-outcome c =
    let a = c.args in
    let b : PathBuffers = path_buffers (lists a.path_sizes.now a.path_losses.now a.path_weights.now) a.scratch.now in
    let s = c.in_ok-signal.ensures in
    let m = c.make_path-entries in
    let places : c.places.result ≡ place_count a.samples.now a.max_segments = rw (← s.signal.0, ← s.signal.1) c.places.ensures in
    path-done a.samples.now a.max_segments a.min_segment_len a.weights.now b
    (path-passes a.samples.now a.max_segments a.min_segment_len a.weights.now b s.checks c.places.result places c.in_ok-check_room.ensures)
    (path_buffers (lists m.new.path_sizes m.new.path_losses m.new.path_weights) m.new.scratch) _ m.result
    (rw (s.signal.0, s.signal.1, s.signal.2) at m.ensures)
    (c.clear_bytes.ensures ∙ ap (λ (k : ℕ). replicate k 0) m.auto.scratch)
