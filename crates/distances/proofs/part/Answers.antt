-- `distances::part` puts what was not seen into the level, one word after the other, and gathers these words' bits.
use Rattle.distances.proofs.SetLaws.{parting_more, parted}
use Rattle.distances.proofs.part.Goals as goal

pub loop-i-preserved : goal.loop-i-preserved
loop-i-preserved c =
    parting_more c.loop-i.invariant c.told-level c.told-seen c.requires c.loop-i-test.true

pub returns : goal.returns
returns c = parted c.loop-i.invariant c.told-level c.told-seen c.loop-i-test.false
