-- `yuktrob_c::yuktrob_search`: the answer of the search becomes its number, and the areas are as it left them. Assumes nothing.
use Rattle.std.proofs.Common.{ap, ◌∙◌}
use Rattle.yuktrob_c.specs.Numbers.{verdict_number}
use Rattle.yuktrob_c.proofs.VerdictFit.{searched-fits}
use Rattle.yuktrob_c.proofs.yuktrob_search.Goals as goal

pub verdict_number-requires : goal.verdict_number-requires
verdict_number-requires c = searched-fits c.search.ensures

pub returns : goal.returns
returns c =
    record {
      numbered = c.verdict_number.ensures ∙ ap verdict_number c.search.ensures.answered;
      filled = c.search.ensures.buffered;
      emptied = c.search.ensures.worked;
    }
