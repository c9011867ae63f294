-- `triples::put_row` writes 12 bytes. The invariant: the columns passed are the row's, and all else is as it was.
use Rattle.std.proofs.Common.{refl, arith, length-set}
use Rattle.triples.proofs.JoinLaws.{put-start, put-more}
use Rattle.triples.proofs.put_row.Goals as goal

pub loop-g-init : goal.loop-g-init
loop-g-init c = (refl, put-start c.args.t.now c.args.f c.args.row.now)

pub loop-g-preserved : goal.loop-g-preserved
loop-g-preserved c = (
  simp length-set c.loop-g.invariant.0,
  put-more c.args.t.now c.loop-g.t c.args.row.now c.args.f c.loop-g.g _ _ refl (omega arith) refl c.loop-g.invariant.1,
)
