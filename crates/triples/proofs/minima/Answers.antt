-- `triples::minima` keeps of each set the priorities that the other has one at least as large as: these are the smaller ones of the pairs.
use Rattle.triples.proofs.ByteLaws.{minima_bits}
use Rattle.triples.proofs.minima.Goals as goal

pub returns : goal.returns
returns c =
    minima_bits c.args.a c.args.b c.down.result c.down-2.result c.down.ensures
    c.down-2.ensures
