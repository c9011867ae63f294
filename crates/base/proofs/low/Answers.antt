-- `base::low` masks by one less than a power of two: what is left is the remainder.
use Rattle.std.proofs.lemmas.Nat.{and_mask}
use Rattle.base.proofs.low.Goals as goal

pub returns : goal.returns
returns c = rw c.power.ensures (and_mask c.args.word c.args.n)
