-- `report::put_signal` makes the signal's path and table, puts the path line, and answers the penalties from both.
use Rattle.std.proofs.Common.{◌≡◌, ap, refl, ◌∙◌, ℕ, zero, suc, not, length, arith}
use lib.Dec.{leb, eqb, eqb-suc-zero}
use borrow.Author.Tests.{le-leb}
use Rattle.text.proofs.Prints.{put_then, put_as}
use Rattle.report.specs.Report.{answering, path_text}
use Rattle.report.specs.Inner.{report_on}
use Rattle.report.proofs.Wholes.{path-is, line-short, path-from, may-answer}
use Rattle.report.proofs.put_signal.Goals as goal

-- Whether weights were given, as the code tests it and as the path line has it.
given-is : (n : ℕ) → not (eqb n 0) ≡ leb 1 n
given-is zero = refl
given-is (suc n) = rw (eqb-suc-zero n, le-leb 1 (suc n) (omega arith)) refl

pub put_path-length-requires : goal.put_path-length-requires
put_path-length-requires c =
    let s = c.args.signal in
    let made = c.make_path-entries in
    path-from s.samples.now s.max_segments s.min_segment_len c.args.weights.now _ _ made.result c.requires.0 made.ensures s.in_range.few _ _ c.requires.1.1.1

pub invariant_of-solved : goal.invariant_of-solved
invariant_of-solved c =
    let s = c.args.signal in
    let made = c.make_path-entries in
    record { answering = may-answer s.samples.now s.max_segments s.min_segment_len c.args.weights.now _ _ made.result c.requires.0 made.ensures }

pub put_answers-requires : goal.put_answers-requires
put_answers-requires c =
    let s = c.args.signal in
    let made = c.make_path-entries in
    let short = line-short s.samples.now s.max_segments s.min_segment_len c.args.weights.now _ _ made.result c.requires.0 made.ensures s.in_range.few in
    let l = c.put_path-length in
    (omega (arith, short (not c.is_empty-given.result), l.ensures.end_is, c.requires.1.1.0), omega (arith, l.auto, c.requires.1.1.1))

pub returns : goal.returns
returns c =
    let s = c.args.signal in
    let made = c.make_path-entries in
    let xs = s.samples.now in
    let limit = s.max_segments in
    let ws = c.args.weights.now in
    let is = path-is xs limit s.min_segment_len ws _ _ made.result c.requires.0 made.ensures in
    let given : not c.is_empty-given.result ≡ leb 1 (length ws) = ap not c.is_empty-given.ensures ∙ given-is (length ws) in
    put_then {t = path_text xs limit ws} {u = report_on (answering xs limit ws) c.args.input.now}
    (put_as (rw (given, is) refl) c.put_path-length.ensures) c.put_answers.ensures
