-- `report::lines::put_model` puts its six pieces one after the other; each fits because their lengths add up to the text's.
use native.Mathlib.Omega.{arith}
use Rattle.text.specs.Text.{bytes}
use Rattle.text.proofs.Prints.{put_then}
use Rattle.report.specs.Lines.{model_text}
use Rattle.report.proofs.Pieces.{model-length}
use Rattle.report.proofs.lines.put_model.Goals as goal

pub put_text-word-requires : goal.put_text-word-requires
put_text-word-requires c = omega (arith, model-length c.args.entry.size c.args.entry.loss c.args.given c.args.entry.weight)

pub put_number-number-requires : goal.put_number-number-requires
put_number-number-requires c = omega (arith, model-length c.args.entry.size c.args.entry.loss c.args.given c.args.entry.weight)

pub put_text-second-requires : goal.put_text-second-requires
put_text-second-requires c = omega (arith, model-length c.args.entry.size c.args.entry.loss c.args.given c.args.entry.weight)

pub put_number-value-requires : goal.put_number-value-requires
put_number-value-requires c = omega (arith, model-length c.args.entry.size c.args.entry.loss c.args.given c.args.entry.weight)

pub put_weight-third-requires : goal.put_weight-third-requires
put_weight-third-requires c = omega (arith, model-length c.args.entry.size c.args.entry.loss c.args.given c.args.entry.weight)

pub put_byte-requires : goal.put_byte-requires
put_byte-requires c = omega (arith, model-length c.args.entry.size c.args.entry.loss c.args.given c.args.entry.weight)

pub returns : goal.returns
unfolding bytes model_text
returns c =
    let front = put_then (put_then c.put_text-word.ensures c.put_number-number.ensures) c.put_text-second.ensures in
    let body = put_then front c.put_number-value.ensures in
    put_then (put_then body c.put_weight-third.ensures) c.put_byte.ensures
