-- `Tableau::choice_of` spreads a choice word over the or operators: after e turns, over those of the first e rows. An or's
-- pick is put in as bit e, which the choice does not have yet.
use Rattle.tableau.proofs.LoopLaws.{ChoiceSoFar}
use Rattle.tableau.proofs.formed.Tableau.choice_of.Given as goal

-- the first e rows' part of the choice
abbrev pub invariant-loop-e : goal.invariant-loop-e
invariant-loop-e l = ChoiceSoFar l.self.table.rows l.e l.choice_word l.choice l.left
