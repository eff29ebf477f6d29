-- `weights::all_in_range` meets its contract: std's test of a list is the definition.
use mathlib.Core.Path.{◌∙◌}
use borrow.Author.Tests.{tests}
use Rattle.std.proofs.Common.{rules}
use Rattle.std.proofs.lemmas.Iterator.{YieldsList-from_slice}
use Rattle.std.proofs.lemmas.Iterator.Search.{all_from_yields_List}
use Rattle.path.specs.Refusal.{weight_in_range}
use Rattle.weights.proofs.Steps.{range-all}
use Rattle.weights.proofs.all_in_range.Goals as goal

pub returns : goal.returns
returns c =
    all_from_yields_List weight_in_range _ _ _ c.all.ensures.ran (YieldsList-from_slice c.args.weights.now cc) (λ x b q k. search (rules, tests)) ∙ range-all c.args.weights.now
