-- verdict_text::not_text meets its contract: the word with the first number, then the other. Assumes nothing.
use Rattle.text.proofs.Writing.{then}
use Rattle.verdict_text.proofs.not_text.Goals as goal

pub returns-clause-wrote : goal.returns-clause-wrote
returns-clause-wrote c = then c.worded.ensures.wrote c.number.ensures.wrote
