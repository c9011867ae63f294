-- `sweep`: the words passed have the bit as the operator says of the words before the sweep; if none changed, all are as they were.
-- Assumes nothing.
use Rattle.std.proofs.Common.{arith, subst}
use Rattle.formula.specs.Access.{Fits}
use Rattle.lasso.specs.Inner.{course}
use Rattle.lasso.proofs.CodeWritten.{held-placed, shaped}
use Rattle.lasso.proofs.CodeSweep.{changed-put, changed_end, still-more, as_before}
use Rattle.lasso.proofs.labeller.Labeller.sweep.Goals as goal

pub operator_at-op-requires : goal.operator_at-op-requires
operator_at-op-requires c = held-placed _ _ c.requires.held

pub holds_at-on-requires : goal.holds_at-on-requires
holds_at-on-requires c = subst (Fits 48) c.operator_at-op.ensures (held-placed _ _ c.requires.held).fits

pub loop-i-preserved : goal.loop-i-preserved
loop-i-preserved c =
    record {
      swept = changed-put _ _ _ _ _ c.loop-i.invariant.swept _ _ (omega (arith, c.requires.words)) c.with-word.ensures
          (as_before _ (course c.args.self.now) _ _ _ _ _ _ _ (shaped _ _ c.requires.held).operands c.loop-i.invariant.swept
          c.successor-next.ensures.is _ c.operator_at-op.ensures c.holds_at-on.ensures);
      still = still-more c.loop-i.words c.loop-i.i _ c.loop-i.changed c.loop-i.invariant.still;
    }

pub returns : goal.returns
returns c =
    record {
      swept = changed_end _ _ _ c.loop-i.auto.i-end c.loop-i-test.false c.loop-i.invariant.swept;
      still = c.loop-i.invariant.still;
    }
