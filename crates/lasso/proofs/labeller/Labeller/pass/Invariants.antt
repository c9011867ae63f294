-- `pass`: each position keeps the promise, so the loop's invariant is the promise of the words so far, and it may stop anywhere. Assumes
-- nothing.
use Rattle.lasso.specs.Inner.{course, numbers, PassMade}
use Rattle.lasso.proofs.labeller.Labeller.pass.Given as goal

abbrev pub invariant-loop-i : goal.invariant-loop-i
invariant-loop-i l = PassMade l.self.rows.now (course l.self) (numbers l.moving) l.moving.greatest l.initial.words l.words
