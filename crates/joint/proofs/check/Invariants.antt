-- `joint::check`: the outcome from this formula on is that from the first.
use Rattle.joint.specs.Inner.{held}
use Rattle.joint.proofs.CheckLaws.{Checking}
use Rattle.joint.proofs.check.Given as goal

abbrev pub invariant-loop-position : goal.invariant-loop-position
invariant-loop-position l = Checking (held l.formulas) l.position
