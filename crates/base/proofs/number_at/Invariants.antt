-- `base::number_at` reads from the highest byte down: each turn is one byte more (`ReadingBytes`).
use Rattle.base.proofs.BytesLaws.{ReadingBytes}
use Rattle.base.proofs.number_at.Given as goal

abbrev pub invariant-loop-i : goal.invariant-loop-i
invariant-loop-i l = ReadingBytes l.width l.area l.at l.i l.x
