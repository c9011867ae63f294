-- `safety::first_least` goes through the rows, with the place of each operator's first byte.
use native.Mathlib.Omega.{arith}
use Rattle.tableau.proofs.RowLaws.{placed}
use Rattle.safety.proofs.SeekLaws.{seek_start, seek_found, seek_next, seek_end}
use Rattle.safety.proofs.first_least.Goals as goal

pub loop-e-init : goal.loop-e-init
loop-e-init c = seek_start _ _

pub operator_at-o-requires : goal.operator_at-o-requires
operator_at-o-requires c = placed c.args.t.now.formed c.loop-e-test.true

pub returns-then-is_least : goal.returns-then-is_least
returns-then-is_least c =
    seek_found c.loop-e.invariant c.loop-e-test.true c.operator_at-o.ensures c.is_least.ensures
    c.if-is_least.true

pub overflow_add-place : goal.overflow_add-place
overflow_add-place c =
    omega (arith, c.loop-e.invariant.low, c.loop-e.invariant.passed, c.width-place.ensures.1, c.args.t.now.formed.few)

pub loop-e-preserved : goal.loop-e-preserved
loop-e-preserved c =
    seek_next c.loop-e.invariant c.loop-e-test.true c.operator_at-o.ensures
    c.is_least.ensures c.if-is_least.false
    c.width-place.ensures.0 c.width-place.ensures.1

pub returns : goal.returns
returns c = seek_end c.loop-e.invariant c.loop-e-test.false
