-- `close`: a closed subformula is labelled, any other left for later. Assumes nothing.
use Rattle.lasso.proofs.CodeClosed.{closing_done, closing_none}
use Rattle.lasso.proofs.labeller.Labeller.close.Goals as goal

pub returns-then-closed : goal.returns-then-closed
returns-then-closed c = closing_done _ _ _ _ _ c.label_open.ensures c.requires.held (c.closed.ensures.yes c.if-closed.true)

pub returns-else-closed : goal.returns-else-closed
returns-else-closed c = closing_none _ _ _ _ (c.closed.ensures.no c.if-closed.false)
