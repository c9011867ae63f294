-- `lasso::turned`: each listed bit keeps the promise, so the loop's invariant is the promise of the word so far. Assumes nothing.
use Rattle.std.proofs.Common.{take}
use Rattle.lasso.specs.Inner.{Turned}
use Rattle.lasso.proofs.turned.Given as goal

abbrev pub invariant-loop-number : goal.invariant-loop-number
invariant-loop-number l =
    Turned l.rows (take l.number-index l.numbers) l.letter l.there l.greatest l.word l.here
