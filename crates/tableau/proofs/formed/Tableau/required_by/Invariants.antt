-- `Tableau::required_by` is what the operators of a set require, in rising order: each turn passes over the rows whose bits are clear, up
-- to the lowest bit that is left, and takes the operator of that row.
use Rattle.tableau.proofs.LoopLaws.{BitsPassed}
use Rattle.tableau.proofs.formed.Tableau.required_by.Given as goal

abbrev pub invariant-loop-rest : goal.invariant-loop-rest
invariant-loop-rest l = BitsPassed l.self.table.rows l.self.table.count l.set l.rest l.all

abbrev pub decreases-loop-rest : goal.decreases-loop-rest
decreases-loop-rest l = l.rest
