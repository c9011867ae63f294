-- `RankedTableau::passed` passes on row by row. The invariant: what is left of the definition's sweep leads to its end.
use Rattle.std.proofs.Common.{arith}
use Rattle.traces.proofs.RankLaws.{fix-small}
use Rattle.traces.proofs.MarkLaws.{swept-start, swept-more, swept_end}
use Rattle.traces.proofs.RankedTableau.passed.Goals as goal

pub loop-e-init : goal.loop-e-init
loop-e-init c = swept-start c.args.self.now.tableau.now.table.rows c.args.self.now.tableau.now.table.count c.args.choice c.args.marks.now

pub passing-requires-clause-s_bound : goal.passing-requires-clause-s_bound
passing-requires-clause-s_bound c =
    let small = fix-small c.args.self.now.limited c.loop-e.e c.loop-e-test.true in
    λ o. omega (arith, c.args.self.now.of.fix_is c.loop-e.e c.loop-e-test.true, small o)

pub loop-e-preserved : goal.loop-e-preserved
loop-e-preserved c =
    swept-more c.args.self.now.tableau.now.table.rows c.args.self.now.tableau.now.table.count c.args.choice c.args.marks.now c.loop-e.e _
    c.loop-e.marks
    c.passing.new.marks c.loop-e-test.true c.args.self.now.tableau.now.formed.few
    (c.args.self.now.of.fix_is c.loop-e.e c.loop-e-test.true) c.loop-e.invariant c.passing.ensures

pub returns : goal.returns
returns c =
    swept_end c.args.self.now.tableau.now.table.rows c.args.self.now.tableau.now.table.count c.args.choice c.args.marks.now c.loop-e.e
    c.loop-e.marks
    c.loop-e-test.false c.loop-e.invariant
