-- `distances::shortest` is told by the best of all vertices; a last search from that vertex notes its distances.
use Rattle.distances.proofs.BestLaws.{through}
use Rattle.distances.proofs.shortest.Goals as goal

pub returns : goal.returns
returns c = through c.requires c.in_ok-best.ensures _ c.distances.ensures c.distances.array_long
