-- `Graph::expand_word` takes one bit after the other, the lowest first: when some bits are left, the vertices of the others are expanded.
use Rattle.distances.specs.Inner.{Expanded}
use Rattle.distances.proofs.ExpandLaws.{taken, Left}
use Rattle.distances.proofs.Graph.expand_word.Given as goal

abbrev pub invariant-loop-left : goal.invariant-loop-left
invariant-loop-left l = record {
  bits : Left l.level l.left;
  expanded :
      Expanded l.self.relation.now (taken l.at l.level l.left) l.far l.initial.steps l.initial.set l.steps l.set;
}

abbrev pub decreases-loop-left : goal.decreases-loop-left
decreases-loop-left l = l.left
