-- `base::without` clears a bit that the word has by xor, which takes its power off.
use Rattle.base.proofs.LowestLaws.{without_of}
use Rattle.base.proofs.without.Goals as goal

pub returns : goal.returns
returns c = rw c.power.ensures (without_of c.args.word c.args.e c.requires.there)
