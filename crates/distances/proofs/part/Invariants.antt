-- `distances::part` puts what was not seen into the level, one word after the other, and gathers these words' bits.
use Rattle.distances.proofs.SetLaws.{Parting}
use Rattle.distances.proofs.part.Given as goal

abbrev pub invariant-loop-i : goal.invariant-loop-i
invariant-loop-i l = Parting l.words l.set l.initial.level l.initial.seen l.i l.level l.seen l.any
