-- `triples::same_bytes` gathers the bits in which the rows differ. The invariant: there are none exactly if the columns passed are the
-- same.
use Rattle.std.proofs.Common.{refl, arith}
use Rattle.triples.proofs.CellLaws.{differ_more}
use Rattle.triples.proofs.same_bytes.Goals as goal

pub loop-g-init : goal.loop-g-init
loop-g-init c = ((λ t g h. absurd (omega arith)), λ h. refl)

pub loop-g-preserved : goal.loop-g-preserved
loop-g-preserved c = differ_more c.args.x.now c.args.y.now c.loop-g.differ c.loop-g.g c.loop-g.invariant

pub returns : goal.returns
returns c = (
  λ t g h. c.loop-g.invariant.0 t g (omega arith),
  λ h. c.loop-g.invariant.1 (λ g l. h g (omega arith)),
)
