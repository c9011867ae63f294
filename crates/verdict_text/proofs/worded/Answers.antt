-- verdict_text::worded meets its contract: the word, then the number. Assumes nothing.
use Rattle.text.proofs.Writing.{then}
use Rattle.verdict_text.proofs.worded.Goals as goal

pub returns-clause-wrote : goal.returns-clause-wrote
returns-clause-wrote c = then c.put_all.ensures.wrote c.number.ensures.wrote
