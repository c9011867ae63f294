-- `yuktrob_c::yuktrob_decide`: the answer of the decision becomes its number, and the areas are as it left them. Assumes nothing.
use Rattle.std.proofs.Common.{ap, ◌∙◌}
use Rattle.yuktrob_c.specs.Numbers.{verdict_number}
use Rattle.yuktrob_c.proofs.VerdictFit.{decided-fits}
use Rattle.yuktrob_c.proofs.yuktrob_decide.Goals as goal

pub verdict_number-requires : goal.verdict_number-requires
verdict_number-requires c = decided-fits c.decide.ensures

pub returns : goal.returns
returns c =
    record {
      numbered = c.verdict_number.ensures ∙ ap verdict_number c.decide.ensures.answered;
      filled = c.decide.ensures.buffered;
      emptied = c.decide.ensures.worked;
    }
