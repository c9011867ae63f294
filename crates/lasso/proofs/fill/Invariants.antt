-- `lasso::fill` sets the bits of a mask in one word after another. The loop's invariant: the words before it are done. Assumes nothing.
use Rattle.lasso.specs.Inner.{BitsFilled}
use Rattle.lasso.proofs.fill.Given as goal

abbrev pub invariant-loop-word : goal.invariant-loop-word
invariant-loop-word l = BitsFilled l.word-index l.mask l.on l.initial.word-items l.word-items
