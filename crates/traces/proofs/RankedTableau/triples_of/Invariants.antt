-- `RankedTableau::triples_of` goes over the rows. The invariant: the nexts passed have their rows, and the rows after these are empty.
use Rattle.traces.specs.Inner.{DoneTo}
use Rattle.traces.proofs.RankedTableau.triples_of.Given as goal

abbrev pub invariant-loop-e : goal.invariant-loop-e
invariant-loop-e l = DoneTo l.self.tableau.now.table.rows l.self.tableau.now.table.count l.choice l.node l.e l.t
