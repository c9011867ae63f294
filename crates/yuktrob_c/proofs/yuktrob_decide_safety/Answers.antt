-- `yuktrob_c::yuktrob_decide_safety`: the answer of the safety decision becomes its number, and the areas are as it left them. Assumes
-- nothing.
use Rattle.std.proofs.Common.{ap, ◌∙◌}
use Rattle.yuktrob_c.specs.Numbers.{safety_number}
use Rattle.yuktrob_c.proofs.VerdictFit.{safety_fits}
use Rattle.yuktrob_c.proofs.yuktrob_decide_safety.Goals as goal

pub safety_number-requires : goal.safety_number-requires
safety_number-requires c = safety_fits c.decide_safety.ensures

pub returns : goal.returns
returns c =
    record {
      numbered = c.safety_number.ensures ∙ ap safety_number c.decide_safety.ensures.answered;
      filled = c.decide_safety.ensures.buffered;
      emptied = c.decide_safety.ensures.worked;
    }
