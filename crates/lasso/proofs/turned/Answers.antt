-- `lasso::turned`: each listed bit keeps the promise, so the loop's invariant is the promise of the word so far. Assumes nothing.
use Rattle.std.proofs.Common.{[]}
use Rattle.lasso.proofs.CodePass.{turned_none, turned_more}
use Rattle.lasso.proofs.turned.Goals as goal

pub loop-number-init : goal.loop-number-init
loop-number-init c = turned_none _ _ _ _ _ []

pub loop-number-preserved : goal.loop-number-preserved
loop-number-preserved c =
    turned_more _ _ _ _ _ c.args.numbers.now c.loop-number.number-index _ _ _ _ c.loop-number-test.true c.from-k.ensures
    c.loop-number.invariant _ c.operator_at-op.ensures c.holds_at-on.ensures c.moved-here.ensures
