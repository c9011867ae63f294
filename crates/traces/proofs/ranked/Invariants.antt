-- `traces::ranked` counts the next and the fixpoints row by row. The invariant: the ranks of the rows passed are stored.
use Rattle.traces.proofs.RankLaws.{Ranking}
use Rattle.traces.proofs.ranked.Given as goal

abbrev pub invariant-loop-e : goal.invariant-loop-e
invariant-loop-e l = Ranking l.tableau.table.rows l.e l.next l.fix l.nexts l.fixes
