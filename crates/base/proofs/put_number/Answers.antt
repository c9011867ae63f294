-- `base::put_number` writes from the lowest byte up: each turn is one byte more (`WritingBytes`).
use Rattle.base.proofs.BytesLaws.{write_more}
use Rattle.base.proofs.put_number.Goals as goal

pub loop-i-preserved : goal.loop-i-preserved
loop-i-preserved c = write_more _ _ _ _ c.loop-i-test.true c.requires c.loop-i.invariant
