-- `Tableau::choice_of` spreads a choice word over the or operators: after e turns, over those of the first e rows. An or's
-- pick is put in as bit e, which the choice does not have yet.
use Rattle.std.proofs.Common.{sym, ◌∙◌, arith}
use Rattle.tableau.proofs.LoopLaws.{chosen_or, chosen_other}
use Rattle.tableau.proofs.formed.Tableau.choice_of.Goals as goal
use Rattle.tableau.proofs.formed.Tableau.choice_of.Goals.{else-is_or, then-is_or}

pub loop-e-preserved : goal.loop-e-preserved
loop-e-preserved c =
    let is = sym c.is_or.ensures in
    elim c.if-is_or.branch [
      | then-is_or w ↦ rw (w.choice-is, w.left-is) (chosen_or c.loop-e.invariant (is ∙ w.if-is_or.true) (omega arith))
      | else-is_or w ↦ rw (w.choice-is, w.left-is) (chosen_other c.loop-e.invariant (is ∙ w.if-is_or.false))
    ]
