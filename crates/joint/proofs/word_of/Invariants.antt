-- `joint::word_of` goes from the highest position down, and each doubles what was there.
use Rattle.joint.proofs.WordingLaws.{Wording}
use Rattle.joint.proofs.word_of.Given as goal

abbrev pub invariant-loop-i : goal.invariant-loop-i
invariant-loop-i l = Wording l.taken l.x l.i
