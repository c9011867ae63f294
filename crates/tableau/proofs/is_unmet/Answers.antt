-- `tableau::is_unmet` is the definition's test: `any` over the ors' numbers asks the same of each.
use Rattle.std.proofs.Common.{refl, rules, tests}
use Rattle.std.proofs.lemmas.Iterator.{YieldsList-from_range}
use Rattle.std.proofs.lemmas.Iterator.Search.{any_from_yields_List}
use Rattle.tableau.proofs.UnmetLaws.{hit}
use Rattle.tableau.proofs.is_unmet.Goals as goal

pub returns : goal.returns
returns c =
    any_from_yields_List (hit c.args.unmet.now c.args.choice_word) _ _ _ c.any.ensures.ran
    (YieldsList-from_range 0 12 12 refl refl) (λ x b q k. search (rules, tests))
