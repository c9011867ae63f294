-- `formula::counted` counts what the definition counts, by the kind of the opcode. Assumes nothing.
use Rattle.formula.proofs.CodeOpcodes.{counted-or, counted-next, counted-fixpoint}
use Rattle.formula.proofs.counted.Goals as goal

pub returns-in-Or : goal.returns-in-Or
returns-in-Or c = counted-or c.args.op c.args.h c.requires c.in-Or.is

pub returns-in-Next : goal.returns-in-Next
returns-in-Next c = counted-next c.args.op c.args.h c.requires c.in-Next.is

pub returns-in-Least : goal.returns-in-Least
returns-in-Least c = counted-fixpoint c.args.op c.args.h c.requires c.in-Least.is
