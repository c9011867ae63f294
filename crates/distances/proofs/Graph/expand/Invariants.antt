-- `Graph::expand` expands the vertices of one word after the other; past the first words the level has none.
use Rattle.distances.specs.Inner.{Expanded}
use Rattle.distances.proofs.ExpandLaws.{passed}
use Rattle.distances.proofs.Graph.expand.Given as goal

abbrev pub invariant-loop-at : goal.invariant-loop-at
invariant-loop-at l =
    Expanded l.self.relation.now (passed l.level l.at) l.far l.initial.steps l.initial.set l.steps l.set
