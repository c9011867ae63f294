-- `substitution::bytes_before`: one operator after another. Assumes nothing.
use Rattle.substitution.proofs.WidthLaws.{Summed}
use Rattle.substitution.proofs.bytes_before.Given as goal

abbrev pub invariant-loop-i : goal.invariant-loop-i
invariant-loop-i l = Summed l.t.rows l.n l.sum l.i
