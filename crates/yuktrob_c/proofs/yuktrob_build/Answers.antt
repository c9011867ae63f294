-- `yuktrob_c::yuktrob_build`: the answer of building becomes its number, and the area is as it left it. Assumes nothing.
use Rattle.std.proofs.Common.{ap, ◌∙◌}
use Rattle.yuktrob_c.specs.Numbers.{construction_number}
use Rattle.yuktrob_c.proofs.VerdictFit.{constructed_fits}
use Rattle.yuktrob_c.proofs.yuktrob_build.Goals as goal

pub construction_number-requires : goal.construction_number-requires
construction_number-requires c = constructed_fits c.build.ensures

pub returns : goal.returns
returns c =
    record {
      numbered = c.construction_number.ensures ∙ ap construction_number c.build.ensures.answered;
      filled = c.build.ensures.worked;
    }
