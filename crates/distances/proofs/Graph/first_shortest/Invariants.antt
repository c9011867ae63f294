-- `Graph::first_shortest` keeps the first of the best; a later vertex has to be better.
use Rattle.distances.specs.Inner.{Best}
use Rattle.distances.proofs.Graph.first_shortest.Given as goal

abbrev pub invariant-loop-vertex : goal.invariant-loop-vertex
invariant-loop-vertex l = Best l.self.relation.now l.self.count l.vertex l.best
