-- `weights::all_rising` meets its contract: std's answer is the definition.
use lib.Dec.{ltb}
use borrow.Author.Tests.{tests}
use Rattle.std.proofs.Common.{rules}
use Rattle.std.proofs.lemmas.List.Sorted.{answers_always}
use Rattle.weights.proofs.Steps.{rising-is}
use Rattle.weights.proofs.all_rising.Goals as goal

pub returns : goal.returns
returns c = rising-is c.args.weights.now c.is_sorted_by.result (c.is_sorted_by.ensures.cases ltb (answers_always _ _ _ (λ f a r g h. search (rules, tests))))
