-- `report::lines::put_segments` puts segment after segment. The loop's invariant: the text of the first i segments lies over the
-- output, and has at most 25 bytes for each.
use mathlib.Core.Path.{◌≡◌, refl, sym}
use mathlib.Core.List.{List}
use Prim.Native.Nat.{ℕ, ◌+◌, ◌≤◌, ◌<◌}
use native.Mathlib.Omega.{arith}
use lib.IntN.{ℤ, pos}
use lib.ListN.{length, get_or, length-append}
use lib.Signed.{mag}
use mir.Facts.{to_z-of_z}
use Rattle.text.proofs.Prints.{put_then, put_as, put-nothing}
use Rattle.report.specs.Lines.{segment_text}
use Rattle.report.specs.Inner.{last_of, items_text}
use Rattle.report.proofs.Items.{items_more}
use Rattle.report.proofs.Lengths.{segment-few, last-small}
use Rattle.report.proofs.lines.put_segments.Goals as goal

-- The text of a segment whose level fits 16 bits has at most 25 bytes.
short : (starts : List ℕ) (count n i : ℕ) (level : ℤ) → ((j : ℕ) → get_or starts j 0 < 65536) → n ≤ 512 → mag level < 32768
    → length (segment_text (get_or starts i 0) (last_of starts count n i) level) ≤ 25
short starts count n i level known h fits =
    segment-few _ _ level (omega (arith, known i)) (last-small starts count n i known h) fits

pub loop-i-init : goal.loop-i-init
unfolding items_text
loop-i-init c = (refl, put-nothing c.args.output.now c.args.at (omega (arith, c.requires.fits)), omega arith)

pub last_position-last-requires : goal.last_position-last-requires
last_position-last-requires c = (c.loop-i-test.true, λ h. c.requires.positive (c.loop-i.i + 1) h)

pub put_segment-place-requires : goal.put_segment-place-requires
put_segment-place-requires c =
    let a = c.args in
    let lp = c.loop-i in
    let test = c.loop-i-test.true in
    let level = get_or a.levels.now lp.i (pos 0) in
    let fits : mag level < 32768 = omega arith in
    let few = short a.starts.now (length a.starts.now) a.samples_len lp.i level (λ j. omega (arith, c.type_inv.starts j)) c.requires.short fits in
    rw (c.last_position-last.ensures, c.from.ensures, to_z-of_z (record { sfits = fits }))
    (omega (arith, few, lp.invariant.1.end_is, lp.invariant.2, c.requires.fits))

pub loop-i-preserved : goal.loop-i-preserved
loop-i-preserved c =
    let a = c.args in
    let lp = c.loop-i in
    let u = c.put_segment-place in
    let level = get_or a.levels.now lp.i (pos 0) in
    let fits : mag level < 32768 = omega arith in
    let few = short a.starts.now (length a.starts.now) a.samples_len lp.i level (λ j. omega (arith, c.type_inv.starts j)) c.requires.short fits in
    let so_far = items_text a.starts.now a.levels.now (length a.starts.now) a.samples_len lp.i in
    let next = segment_text (get_or a.starts.now lp.i 0) (last_of a.starts.now (length a.starts.now) a.samples_len lp.i) level in
    let more = items_more a.starts.now a.levels.now (length a.starts.now) a.samples_len lp.i in
    let put = rw (c.last_position-last.ensures, c.from.ensures, to_z-of_z (record { sfits = fits })) at u.ensures in (
      omega (arith, u.auto),
      put_as (sym more) (put_then lp.invariant.1 put),
      rw (more, length-append so_far next) (omega (arith, few, lp.invariant.2)),
    )

pub returns : goal.returns
returns c =
    let a = c.args in
    let lp = c.loop-i in
    let e : lp.i ≡ (length a.starts.now) = omega arith in
    record { put = rw e at lp.invariant.1; short = rw e at lp.invariant.2 }
