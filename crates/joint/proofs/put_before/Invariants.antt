-- `joint::put_before` puts one byte before another, from the last to the first.
use Rattle.joint.proofs.ConjoinLaws.{Putting}
use Rattle.joint.proofs.put_before.Given as goal

abbrev pub invariant-loop-i : goal.invariant-loop-i
invariant-loop-i l = Putting l.bytes l.start l.at l.initial.out l.out l.i
