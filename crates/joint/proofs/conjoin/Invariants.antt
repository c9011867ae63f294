-- `joint::conjoin`: what is there is the conjunction of the formulas taken from this position on.
use Rattle.joint.specs.Inner.{held}
use Rattle.joint.proofs.ConjoinLaws.{Conjoining}
use Rattle.joint.proofs.conjoin.Given as goal

abbrev pub invariant-loop-i : goal.invariant-loop-i
invariant-loop-i l = Conjoining l.taken (held l.formulas) l.initial.out l.out l.at l.i
