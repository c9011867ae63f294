-- `tableau::located` tells where a word stands: by a slot without a mark, by the marked node, or by looking at all.
use Rattle.std.proofs.Common.{arith}
use Rattle.tableau.proofs.StepLaws.{found_at}
use Rattle.tableau.proofs.SlotLaws.{unmarked}
use Rattle.tableau.proofs.located.Goals as goal

pub returns-in_err-marked : goal.returns-in_err-marked
returns-in_err-marked c =
    rw c.from_residual.ensures
    (unmarked c.args.set c.requires.slots_marked c.slot-k.ensures c.from.ensures (omega (arith, c.in_err-marked.ensures)))

pub returns : goal.returns
returns c = found_at c.args.area.now c.args.known c.args.set c.find.ensures
