-- `Text::letter` meets its contract: its three parts, one after another. Assumes nothing.
use Rattle.text.proofs.Writing.{then}
use Rattle.text.proofs.Text.letter.Goals as goal

pub returns-clause-wrote : goal.returns-clause-wrote
returns-clause-wrote c =
    rw (← c.from.ensures) (then (then c.put_all.ensures.wrote c.hex.ensures.wrote) c.put_all-2.ensures.wrote)
