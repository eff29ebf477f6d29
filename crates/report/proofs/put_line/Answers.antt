-- `report::put_line` segments the signal at the penalty and puts the front of the line, its segments and its end. Each has its room,
-- because the front has at most 65 bytes and a segment at most 25.
use Rattle.std.proofs.Common.{◌≡◌, sym, true, List, ◌++◌, ℕ, ◌≤◌, ◌<◌, ◌^◌, ℤ, length, take, arith}
use Rattle.select.specs.Penalty.{valid_penalty}
use Rattle.select.specs.declared.Selected.{Selected}
use Rattle.signal.specs.SignalPath.{PathBuffers}
use Rattle.signal.specs.Inner.{InRange, SegmentedAt}
use Rattle.path.specs.Model.{path_of}
use Rattle.text.specs.Text.{bytes}
use Rattle.text.proofs.Prints.{put_then, put_as}
use Rattle.report.specs.Lines.{head_text}
use Rattle.report.specs.Report.{report_path}
use Rattle.report.specs.Inner.{Answering, items_text}
use Rattle.report.proofs.Lengths.{head_few}
use Rattle.report.proofs.Answers.{LineParts, line-parts}
use Rattle.report.proofs.put_line.Goals as goal

-- What the found segments tell of the line, and that its front is short.
line-made : (xs : List ℤ) (limit d : ℕ) (ws : List ℕ) (b : PathBuffers) (n p q : ℕ) → InRange (length xs) limit d → valid_penalty p q ≡ true
    → Answering xs limit d ws b n → (starts₀ starts : List ℕ) (levels₀ levels : List ℤ) (found : Selected)
    → SegmentedAt xs d (path_of b.lists n) p q starts₀ levels₀ starts levels found → found.entry.loss < 2 ^ 64
    → LineParts xs (report_path xs limit ws) p q starts levels found.entry.size found.entry.loss
    × (length (head_text p q found.entry.size found.entry.loss) ≤ 65)
line-made xs limit d ws b n p q r v ok starts₀ starts levels₀ levels found h l =
    let m = line-parts xs limit d ws b n p q r v ok starts₀ starts levels₀ levels found h in
    (m, head_few p q found.entry.size found.entry.loss v (omega (arith, m.few)) l)

pub put_head-head-requires : goal.put_head-head-requires
put_head-head-requires c =
    let s = c.args.solved in
    let p = c.args.penalty in
    let g = c.segment_at-found in
    let m = line-made s.signal.samples.now s.signal.max_segments s.signal.min_segment_len s.weights.now _ s.entries p.p p.q s.signal.in_range p.in_range s.answering _ g.new.starts _ g.new.levels g.result g.ensures (omega (arith, g.type_inv)) in
    omega (arith, m.1, c.requires)

pub slice_bounds-starts-end : goal.slice_bounds-starts-end
slice_bounds-starts-end c =
    let s = c.args.solved in
    let p = c.args.penalty in
    let g = c.segment_at-found in
    let m = line-made s.signal.samples.now s.signal.max_segments s.signal.min_segment_len s.weights.now _ s.entries p.p p.q s.signal.in_range p.in_range s.answering _ g.new.starts _ g.new.levels g.result g.ensures (omega (arith, g.type_inv)) in
    m.0.in_starts

pub slice_bounds-put_segments-end : goal.slice_bounds-put_segments-end
slice_bounds-put_segments-end c =
    let s = c.args.solved in
    let p = c.args.penalty in
    let g = c.segment_at-found in
    let m = line-made s.signal.samples.now s.signal.max_segments s.signal.min_segment_len s.weights.now _ s.entries p.p p.q s.signal.in_range p.in_range s.answering _ g.new.starts _ g.new.levels g.result g.ensures (omega (arith, g.type_inv)) in
    sym m.0.same

pub put_segments-body-requires : goal.put_segments-body-requires
put_segments-body-requires c =
    let s = c.args.solved in
    let p = c.args.penalty in
    let g = c.segment_at-found in
    let m = line-made s.signal.samples.now s.signal.max_segments s.signal.min_segment_len s.weights.now _ s.entries p.p p.q s.signal.in_range p.in_range s.answering _ g.new.starts _ g.new.levels g.result g.ensures (omega (arith, g.type_inv)) in
    let h = c.put_head-head in
    record {
      in_levels = m.0.in_levels;
      short = s.signal.in_range.short;
      positive = m.0.positive;
      fits = omega (arith, m.1, m.0.same, m.0.few, c.requires, h.ensures.end_is, h.auto);
    }

pub put_text-requires : goal.put_text-requires
put_text-requires c =
    let s = c.args.solved in
    let p = c.args.penalty in
    let g = c.segment_at-found in
    let m = line-made s.signal.samples.now s.signal.max_segments s.signal.min_segment_len s.weights.now _ s.entries p.p p.q s.signal.in_range p.in_range s.answering _ g.new.starts _ g.new.levels g.result g.ensures (omega (arith, g.type_inv)) in
    let h = c.put_head-head in
    let t = c.put_segments-body in
    omega (arith, m.1, m.0.same, m.0.few, c.requires, h.ensures.end_is, h.auto, t.ensures.short, t.ensures.put.end_is, t.auto)

pub returns : goal.returns
unfolding bytes
returns c =
    let s = c.args.solved in
    let p = c.args.penalty in
    let g = c.segment_at-found in
    let m = line-made s.signal.samples.now s.signal.max_segments s.signal.min_segment_len s.weights.now _ s.entries p.p p.q s.signal.in_range p.in_range s.answering _ g.new.starts _ g.new.levels g.result g.ensures (omega (arith, g.type_inv)) in
    let h = c.put_head-head.ensures in
    let b = c.put_segments-body.ensures in
    let e = c.put_text.ensures in
    let starts = take g.result.entry.size g.new.starts in
    let t = head_text p.p p.q g.result.entry.size g.result.entry.loss in
    let u = items_text starts g.new.levels (length starts) (length s.signal.samples.now) (length starts) in
    let whole = put_as m.0.line (put_then {t = t ++ u} {u = bytes ")\n"} (put_then {t = t} {u = u} h b.put) e) in
    record { put = whole; short = omega (arith, m.1, m.0.same, m.0.few, b.short, b.put.end_is, h.end_is, e.end_is, whole.end_is) }
