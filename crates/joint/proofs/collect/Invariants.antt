-- `joint::collect`: before each turn, the records that were passed and those from here on are the whole catalogue's. Each record takes four
-- bytes or more, so the bytes left fall.
use Rattle.std.proofs.Common.{◌-◌, length}
use Rattle.joint.proofs.CollectLaws.{Collecting}
use Rattle.joint.proofs.collect.Given as goal

abbrev pub invariant-loop-r : goal.invariant-loop-r
invariant-loop-r l = Collecting l.catalogue l.at l.least l.parts l.count

abbrev pub decreases-loop-r : goal.decreases-loop-r
decreases-loop-r l = length l.catalogue - l.at
