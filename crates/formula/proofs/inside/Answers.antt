-- `formula::inside` gives the scope of the operands: a next guards every enclosing fixpoint, a fixpoint is entered with its number and its
-- place and is not guarded, and what has one or two other operands changes nothing. Assumes nothing.
use Rattle.std.proofs.Common.{rules}
use Rattle.formula.proofs.CodeScope.{inside-next, inside-fixpoint}
use Rattle.formula.proofs.inside.Goals as goal

pub returns-in-Next : goal.returns-in-Next
returns-in-Next c = inside-next c.args.scope c.args.me.0 c.args.at c.args.op c.requires.guarded c.in-Next.is

pub returns-in-Least : goal.returns-in-Least
returns-in-Least c =
    inside-fixpoint c.args.scope c.args.me.0 c.args.at c.args.op c.requires.guarded c.in-Least.is c.requires.number c.requires.room
    (search rules)
