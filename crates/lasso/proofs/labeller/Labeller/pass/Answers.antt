-- `pass`: each position keeps the promise, so the loop's invariant is the promise of the words so far, and it may stop anywhere. Assumes
-- nothing.
use Rattle.std.proofs.Common.{arith}
use Rattle.lasso.proofs.CodePass.{passed_none, passed-more}
use Rattle.lasso.proofs.labeller.Labeller.pass.Goals as goal

pub loop-i-init : goal.loop-i-init
loop-i-init c = passed_none _ _ _ _ _

pub loop-i-preserved : goal.loop-i-preserved
loop-i-preserved c =
    passed-more _ _ _ _ _ _ _ _ _ c.args.self.now.cycle c.requires.words c.loop-i.invariant (omega arith) c.successor-next.ensures.is
    (rw c.numbers-numbers.ensures at c.turned-word.ensures)
