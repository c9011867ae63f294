-- verdict_text::met_text meets its contract: the word with the first number, then the three others. Assumes nothing.
use Rattle.text.proofs.Writing.{then}
use Rattle.verdict_text.proofs.met_text.Goals as goal

pub returns-clause-wrote : goal.returns-clause-wrote
returns-clause-wrote c =
    then (then (then c.worded.ensures.wrote c.number.ensures.wrote) c.number-2.ensures.wrote) c.number-3.ensures.wrote
