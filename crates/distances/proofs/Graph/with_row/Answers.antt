-- `Graph::with_row` joins the words of the vertex to the set, one after the other.
use Rattle.distances.proofs.SetLaws.{row-joined}
use Rattle.distances.proofs.WalkLaws.{rows_of}
use Rattle.distances.proofs.Graph.with_row.Goals as goal

pub returns : goal.returns
returns c =
    row-joined (rows_of c.args.self.now.steps c.args.self.now.all_blocks) c.args.row c.requires c.told-set c.loop-i.invariant
    c.loop-i.auto.i-end c.loop-i-test.false
