-- `triples::same_bytes` gathers the bits in which the rows differ. The invariant: there are none exactly if the columns passed are the
-- same.
use Rattle.std.proofs.Common.{◌↔◌, IsTrue, eqb}
use Rattle.triples.proofs.CellLaws.{SameBelow}
use Rattle.triples.proofs.same_bytes.Given as goal

abbrev pub invariant-loop-g : goal.invariant-loop-g
invariant-loop-g l = IsTrue (eqb l.differ 0) ↔ SameBelow l.x l.y l.g
