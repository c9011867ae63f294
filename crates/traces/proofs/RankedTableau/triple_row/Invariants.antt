-- `RankedTableau::triple_row` fills row f next by next. The invariant: the nexts passed are in their columns, and the other rows stay.
use Rattle.traces.specs.Inner.{RowFilled}
use Rattle.traces.proofs.RankedTableau.triple_row.Given as goal

abbrev pub invariant-loop-e : goal.invariant-loop-e
invariant-loop-e l = RowFilled l.self.tableau.now.table.rows l.marks l.e l.f l.initial.t l.t
