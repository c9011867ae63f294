-- `Tableau::required_by` is what the operators of a set require, in rising order: each turn passes over the rows whose bits are clear, up
-- to the lowest bit that is left, and takes the operator of that row.
use Rattle.tableau.proofs.RowLaws.{placed}
use Rattle.tableau.proofs.LoopLaws.{passed_none, passed-below, passed-more, passed-all}
use Rattle.std.proofs.Common.{arith, pow_pos}
use Rattle.tableau.proofs.formed.Tableau.required_by.Goals as goal

pub loop-rest-init : goal.loop-rest-init
loop-rest-init c = passed_none _ _ c.low-rest.ensures

pub with_required-all-requires : goal.with_required-all-requires
with_required-all-requires c =
    placed c.args.self.now.formed (passed-below c.loop-rest.invariant c.lowest-e.ensures)

pub loop-rest-smaller : goal.loop-rest-smaller
loop-rest-smaller c = omega (arith, c.without-rest.ensures.less, pow_pos c.lowest-e.result)

pub loop-rest-preserved : goal.loop-rest-preserved
loop-rest-preserved c =
    passed-more c.loop-rest.invariant c.lowest-e.ensures c.without-rest.ensures c.with_required-all.ensures

pub returns : goal.returns
returns c = passed-all c.loop-rest.invariant c.args.self.now.formed c.loop-rest-test.false
