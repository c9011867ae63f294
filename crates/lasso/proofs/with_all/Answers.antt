-- `lasso::with_all` sets the bits of a mask by or, and clears them by and with all others. Assumes nothing.
use Rattle.lasso.proofs.CodePass.{masked_on, masked_off}
use Rattle.lasso.proofs.with_all.Goals as goal

pub returns-then-on : goal.returns-then-on
returns-then-on c = λ k. rw c.if-on.true (masked_on _ _ k)

pub returns-else-on : goal.returns-else-on
returns-else-on c = λ k. rw c.if-on.false (masked_off _ _ k c.ranges.word.fits c.ranges.mask.fits)
