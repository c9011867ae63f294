-- `RankedTableau::least_mask` goes over the rows. The invariant: the mask has the least fixpoints of the rows passed.
use Rattle.traces.proofs.LeastLaws.{Masked}
use Rattle.traces.proofs.RankedTableau.least_mask.Given as goal

abbrev pub invariant-loop-e : goal.invariant-loop-e
invariant-loop-e l = Masked l.self.tableau.now.table.rows l.self.tableau.now.table.count l.e l.mask
