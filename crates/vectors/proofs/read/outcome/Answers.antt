-- vectors::read::outcome: the contract of reading says of an accepted formula that its table can be looked into. Assumes nothing.
use Rattle.formula.proofs.FitLaws.{accepted_readable}
use Rattle.vectors.proofs.read.outcome.Goals as goal

pub accepted-requires : goal.accepted-requires
accepted-requires c = accepted_readable _ c.read.result c.read.ensures.outcome c.in-Ok.is
