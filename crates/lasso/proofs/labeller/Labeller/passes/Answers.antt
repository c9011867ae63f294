-- `passes`: passes one behind the other keep the promise of one. Assumes nothing.
use Rattle.lasso.proofs.CodePass.{passed_none, passed_then}
use Rattle.lasso.proofs.labeller.Labeller.passes.Goals as goal

pub loop-init : goal.loop-init
loop-init c = passed_none _ _ _ _ _

pub loop-preserved : goal.loop-preserved
loop-preserved c = passed_then _ _ _ _ _ _ _ c.loop.invariant c.pass-in-loop.ensures

pub returns-then-not-pass : goal.returns-then-not-pass
returns-then-not-pass c =
    passed_then _ _ _ _ _ _ _ c.pass.ensures (passed_then _ _ _ _ _ _ _ c.loop.invariant c.pass-in-loop.ensures)

pub returns : goal.returns
returns c = passed_then _ _ _ _ _ _ _ c.pass.ensures c.loop.invariant
