-- `joint::check`: the outcome from this formula on is that from the first.
use Rattle.std.proofs.Common.{arith}
use Rattle.joint.specs.Inner.{held}
use Rattle.formula.proofs.RowLaws.{reading-held, reading-refused}
use Rattle.joint.proofs.CheckLaws.{held-length, held-at, check_refused, check_next}
use Rattle.joint.proofs.check.Goals as goal

pub returns-in-Err : goal.returns-in-Err
returns-in-Err c =
    check_refused (held c.args.formulas.now) c.loop-position.invariant
    (omega (arith, held-length c.args.formulas.now)) (held-at c.args.formulas.now c.loop-position.position _ c.loop-position-test.true)
    (reading-refused _ c.read.result c.read.ensures.outcome c.in-Err.is)

pub loop-position-preserved : goal.loop-position-preserved
loop-position-preserved c =
    check_next (held c.args.formulas.now) c.loop-position.invariant
    (omega (arith, held-length c.args.formulas.now)) (held-at c.args.formulas.now c.loop-position.position _ c.loop-position-test.true)
    (reading-held _ c.read.result c.read.ensures.outcome c.in_default.is).parsed
