-- `base::lowest` is the number of a word's trailing zeros, where its lowest bit stands.
use Rattle.std.proofs.Common.{arith}
use Rattle.base.proofs.LowestLaws.{lowest_of}
use Rattle.base.proofs.lowest.Goals as goal

pub returns : goal.returns
returns c = lowest_of c.args.word c.requires (omega arith)
