-- `whole`: the words are cleared, and closed subformulas labelled from the last to the first, which is the whole formula. Assumes nothing.
use Rattle.lasso.specs.Inner.{course}
use Rattle.lasso.proofs.CodeWords.{Labelling}
use Rattle.lasso.proofs.labeller.Labeller.whole.Given as goal

abbrev pub invariant-loop-k : goal.invariant-loop-k
invariant-loop-k l = Labelling l.self.rows.now (course l.self) l.initial.words l.k l.words
