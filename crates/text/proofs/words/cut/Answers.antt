-- `text::words::cut` cuts where the library finds the byte.
use Rattle.std.proofs.Common.{◌≡◌, ◌+◌, ◌-◌, arith, length, length-drop, drop, take, take_all, length-take}
use Rattle.text.proofs.Searches.{cut-none, cut-some}
use Rattle.text.proofs.words.cut.Goals as goal

pub returns-in_err-place : goal.returns-in_err-place
returns-in_err-place c = rw c.from_residual.ensures (cut-none c.args.byte c.args.text.now c.in_err-place.ensures)

pub returns : goal.returns
returns c =
    let s = c.args.text.now in
    let i = c.in_ok-place.place in
    let k = cut-some c.args.byte s i c.in_ok-place.ensures in
    let rest : take (length s - (i + 1)) (drop (i + 1) s) ≡ drop (i + 1) s = take_all _ _ (omega (arith, length-drop (i + 1) s)) in
    rw rest (k.1, simp (length-take, length-drop) (omega arith))
