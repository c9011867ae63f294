-- `Graph::with_row` joins the words of the vertex to the set, one after the other.
use Rattle.base.proofs.FillLaws.{Filled}
use Rattle.distances.proofs.SetLaws.{joined_word}
use Rattle.distances.proofs.Graph.with_row.Given as goal

abbrev pub invariant-loop-i : goal.invariant-loop-i
invariant-loop-i l = Filled 0 (joined_word l.self.relation.now l.row l.initial.set) l.i l.initial.set l.set
