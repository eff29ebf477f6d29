-- `stream::split_from` meets its contract: the outcome as an answer.
use Rattle.stream.proofs.split_from.Goals as goal

pub returns : goal.returns
returns c = rw c.into.ensures c.split_from_checked.ensures
