-- `yuktrob_c::yuktrob_truth`: the answer of the truth operation becomes its number, and the words are as it left them. Assumes nothing.
use Rattle.std.proofs.Common.{ap, ◌∙◌}
use Rattle.yuktrob_c.specs.Numbers.{truth_number}
use Rattle.yuktrob_c.proofs.TruthFit.{told-fits}
use Rattle.yuktrob_c.proofs.yuktrob_truth.Goals as goal

pub truth_number-requires : goal.truth_number-requires
truth_number-requires c = told-fits _ _ _ c.evaluate.ensures.answered

pub returns : goal.returns
returns c =
    record {
      numbered = c.truth_number.ensures ∙ ap truth_number c.evaluate.ensures.answered;
      labelled = c.evaluate.ensures.labelled;
    }
