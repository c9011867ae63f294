-- `Graph::distances` goes from level to level (`Search`) until the searched vertex is met again, a level is empty, or the bound is reached.
use Rattle.std.proofs.Common.{◌-◌}
use Rattle.distances.proofs.SearchLaws.{Search}
use Rattle.distances.proofs.Graph.distances.Given as goal

abbrev pub invariant-loop-far : goal.invariant-loop-far
invariant-loop-far l = Search l.self.relation.now l.to (l.far - 1) l.level l.seen l.steps
