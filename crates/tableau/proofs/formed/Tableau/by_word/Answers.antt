-- `Tableau::by_word` is the definition's transition under a choice word: a word that the tests tell has none.
use Rattle.std.proofs.Common.{sym, ◌∙◌}
use Rattle.tableau.proofs.UnmetLaws.{unmet-nowhere}
use Rattle.tableau.proofs.TargetLaws.{stepped_none, stepped_choice}
use Rattle.tableau.proofs.formed.Tableau.by_word.Goals as goal
use Rattle.tableau.proofs.formed.Tableau.by_word.Goals.{then-core-via-then-core, then-core-via-else-core+then-is_unmet}

pub returns-then-core : goal.returns-then-core
returns-then-core c =
    elim c.then-core.branch [
      | then-core-via-then-core w ↦ stepped_none (c.requires.core_of.dead_end w.if-core.true c.args.choice_word)
      | then-core-via-else-core+then-is_unmet w ↦
          stepped_none (unmet-nowhere c.requires.unmet_ors _ (sym w.is_unmet.ensures ∙ w.if-is_unmet.true))
    ]

pub returns : goal.returns
returns c = stepped_choice c.choice_of-choice.ensures c.transition.ensures
