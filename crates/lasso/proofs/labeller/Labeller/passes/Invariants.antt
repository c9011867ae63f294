-- `passes`: passes one behind the other keep the promise of one. Assumes nothing.
use Rattle.lasso.specs.Inner.{course, numbers, PassMade}
use Rattle.lasso.proofs.labeller.Labeller.passes.Given as goal

abbrev pub invariant-loop : goal.invariant-loop
invariant-loop l = PassMade l.self.rows.now (course l.self) (numbers l.moving) l.moving.greatest l.initial.words l.words
