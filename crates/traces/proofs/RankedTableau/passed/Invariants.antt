-- `RankedTableau::passed` passes on row by row. The invariant: what is left of the definition's sweep leads to its end.
use Rattle.traces.proofs.MarkLaws.{Sweeping}
use Rattle.traces.proofs.RankedTableau.passed.Given as goal

abbrev pub invariant-loop-e : goal.invariant-loop-e
invariant-loop-e l = Sweeping l.self.tableau.now.table.rows l.self.tableau.now.table.count l.e l.choice l.initial.marks l.marks
