-- `triples::row_of` copies 12 bytes. The invariant: the columns passed are copied.
use Rattle.std.proofs.Common.{refl, ◌*◌, arith, length-set}
use Rattle.triples.proofs.CellLaws.{copied_more}
use Rattle.triples.proofs.row_of.Goals as goal

pub loop-g-preserved : goal.loop-g-preserved
loop-g-preserved c = (
  simp length-set c.loop-g.invariant.0,
  copied_more c.args.a.now c.loop-g.row (c.args.f * 12) c.loop-g.g _ (omega arith) c.loop-g.invariant.1 refl,
)
