-- `text::words::read_sample` looks for a minus and reads the figure after it, or the word as a figure.
use Rattle.std.proofs.Common.{◌∙◌, refl, Some, None, drop}
use Rattle.text.proofs.Readings.{figure-known, figure-none, sample-minus, sample-minus-off, sample-plain, sample-plain-off}
use Rattle.text.proofs.words.read_sample.Goals as goal

pub returns-in_err-read_figure-in-Some : goal.returns-in_err-read_figure-in-Some
returns-in_err-read_figure-in-Some c =
    let w = c.args.word.now in
    let m = c.in-Some.ensures.cases in
    let none = figure-none (drop 1 w) None (rw m.1 at c.in_err-read_figure-in-Some.ensures) refl in
    rw c.from_residual.ensures (sample-minus-off w m.0 none)

pub returns-in_err-read_figure-in-None : goal.returns-in_err-read_figure-in-None
returns-in_err-read_figure-in-None c =
    let w = c.args.word.now in
    let none = figure-none w None c.in_err-read_figure-in-None.ensures refl in
    rw c.from_residual-in_err-read_figure-in-None.ensures (sample-plain-off w c.in-None.ensures.cases none)

pub returns-in_ok-read_figure-in-Some : goal.returns-in_ok-read_figure-in-Some
returns-in_ok-read_figure-in-Some c =
    let w = c.args.word.now in
    let m = c.in-Some.ensures.cases in
    let v = c.in_ok-read_figure-in-Some.field-0 in
    let k = figure-known (drop 1 w) (Some v) v (rw m.1 at c.in_ok-read_figure-in-Some.ensures) refl in
    c.negative.ensures ∙ sample-minus w m.0 v k.0 k.1

pub returns-in_ok-read_figure-in-None : goal.returns-in_ok-read_figure-in-None
returns-in_ok-read_figure-in-None c =
    let w = c.args.word.now in
    let v = c.in_ok-read_figure-in-None.field-0 in
    let k = figure-known w (Some v) v c.in_ok-read_figure-in-None.ensures refl in
    c.positive.ensures ∙ sample-plain w c.in-None.ensures.cases v k.0 k.1
