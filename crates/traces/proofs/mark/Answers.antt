-- `traces::mark` puts priorities into one byte.
use Rattle.traces.proofs.MarkLaws.{marked-one}
use Rattle.traces.proofs.mark.Goals as goal

pub returns : goal.returns
returns c = marked-one c.args.marks.now c.args.s.0 c.args.w c.requires
