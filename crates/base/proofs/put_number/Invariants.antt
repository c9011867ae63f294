-- `base::put_number` writes from the lowest byte up: each turn is one byte more (`WritingBytes`).
use Rattle.base.proofs.BytesLaws.{WritingBytes}
use Rattle.base.proofs.put_number.Given as goal

abbrev pub invariant-loop-i : goal.invariant-loop-i
invariant-loop-i l = WritingBytes l.width l.initial.area l.at l.x l.i l.left l.area
