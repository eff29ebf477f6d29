-- `signal::make_path` meets its contract: the table, then the path of its losses.
use mathlib.Core.Path.{sym, subst}
use mathlib.Core.List.{List}
use Prim.Native.Nat.{ℕ, ◌≤◌, ◌<◌, min}
use native.Mathlib.Omega.{arith}
use lib.IntN.{ℤ}
use lib.ListN.{length, get_or}
use lib.Seq.{length-take-le}
use Rattle.path.specs.Model.{Model, lists}
use Rattle.path.specs.Refusal.{max_loss}
use Rattle.path.proofs.Order.{places-fewer}
use Rattle.weights.specs.Inner.{Weighable}
use Rattle.least.specs.Inner.{Table}
use Rattle.least.proofs.Counts.{count-bounds, count_most}
use Rattle.signal.specs.SignalPath.{path_buffers}
use Rattle.signal.specs.Inner.{PathWritten}
use Rattle.signal.proofs.Paths.{front-path, front-from, solved}
use Rattle.signal.proofs.make_path.Goals as goal
use Rattle.signal.proofs.make_path.Goals.{After-fill_table-count}

-- The table's first loss is in range.
first-loss : {xs : List ℤ} {d k : ℕ} {losses scratch : List ℕ} → Table xs d k losses scratch → 0 < k → get_or losses 0 0 ≤ max_loss
first-loss t h = omega (arith, t.losses_are 0 h, t.losses_low 0 h)

-- There are so many losses.
listed : (c : After-fill_table-count) → c.fill_table-count.result ≤ length c.fill_table-count.new.losses
listed c =
    let s = c.args.signal in
    omega (arith, count_most (length s.samples.now) s.min_segment_len s.max_segments c.fill_table-count.result c.fill_table-count.ensures.0, s.in_range.few, c.fill_table-count.auto.losses)

pub write_path-requires : goal.write_path-requires
write_path-requires c =
    let places = c.places in
    let t = c.fill_table-count in
    let a = c.args in
    let s = a.signal in
    let r = s.in_range in
    let n = length s.samples.now in
    let some = (count-bounds n s.min_segment_len s.max_segments t.result r.one_sample r.enough r.one t.ensures.0).0 in
    let most = count_most n s.min_segment_len s.max_segments t.result t.ensures.0 in
    let buffers = lists a.path_sizes.now a.path_losses.now a.path_weights.now in
    let l = listed (goal.at.write_path-requires c).After-fill_table-count in
    record {
      losses_from = front-from a.weights.now t.new.losses t.result buffers l some (omega (arith, most, r.few))
          (places-fewer buffers (min s.max_segments n) t.result c.requires.room.fits (omega (arith, most))) (first-loss t.ensures.1 some)
          (subst (Weighable a.weights.now) (sym t.ensures.0) c.requires.weighable);
      within = omega (arith, most, places.ensures, length-take-le t.result t.new.losses l);
      few = omega (arith, most, places.ensures, r.few);
      fits = places-fewer buffers (min s.max_segments n) _ c.requires.room.fits (omega (arith, most, places.ensures));
    }

pub returns : goal.returns
returns c =
    let t = c.fill_table-count in
    let p = c.write_path in
    let a = c.args in
    let s = a.signal in
    let places = c.places in
    let b = path_buffers (lists a.path_sizes.now a.path_losses.now a.path_weights.now) a.scratch.now in
    let l = listed (goal.at.returns c).After-fill_table-count in
    solved s.samples.now s.max_segments s.min_segment_len a.weights.now t.result places.result t.ensures.0 places.ensures
    t.new.losses b (lists _ _ _) t.new.scratch p.result t.ensures.1 (omega (arith, t.auto.scratch, c.requires.room.scratch_fits))
    (subst (λ (path : List Model). PathWritten path places.result b.lists (lists p.new.path_sizes p.new.path_losses p.new.path_weights) p.result) (front-path a.weights.now t.new.losses t.result l) p.ensures)
