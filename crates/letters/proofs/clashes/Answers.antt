-- `letters::clashes` looks for a bit that is set in both words, neither of which has one from 16 on, and for both flags in one of them.
use Rattle.std.proofs.Common.{arith}
use Rattle.letters.proofs.LetterLaws.{clash_and}
use Rattle.letters.proofs.clashes.Goals as goal

pub returns : goal.returns
returns c =
    rw (c.both_scales.ensures, c.both_scales-2.ensures)
    (clash_and c.args.required (omega arith))
