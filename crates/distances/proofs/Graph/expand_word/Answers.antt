-- `Graph::expand_word` takes one bit after the other, the lowest first: when some bits are left, the vertices of the others are expanded.
use Rattle.distances.proofs.ExpandLaws.{left_less}
use Rattle.distances.proofs.ExpandLaws.{expanded_bit}
use Rattle.distances.proofs.Graph.expand_word.Goals as goal

pub loop-left-preserved : goal.loop-left-preserved
loop-left-preserved c =
    let inv = c.loop-left.invariant in
    let lowest = c.lowest-e.ensures in
    let without = c.without-left.ensures in
    record {
      bits = left_less inv.bits lowest without;
      expanded = expanded_bit c.args.at inv.expanded inv.bits lowest without c.requires c.with_row.ensures;
    }
