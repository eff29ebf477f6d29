-- `text::print::put_byte` stores its byte.
use Rattle.text.proofs.Prints.{put_one}
use Rattle.std.proofs.Common.{rules}
use Rattle.text.proofs.print.put_byte.Goals as goal

pub returns : goal.returns
returns c = put_one _ _ _ (search rules)
