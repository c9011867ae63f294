-- `label`, `label_open`, `label_fixpoint`, `rounds` and `round` call each other. The measure is the subformula's size paired with the
-- rounds left. Assumes nothing.
use Rattle.std.proofs.Common.{◌+◌, length}
use Rattle.lasso.proofs.CodeWritten.{size-at, paired}
use Rattle.lasso.proofs.labeller.Labeller.+labelling.Given as goal

abbrev pub decreases-label : goal.decreases-label
decreases-label l =
    paired (length l.self.now.letters.now) (size-at l.self.now.rows.now l.s.0) (length l.self.now.letters.now + 3)

abbrev pub decreases-label_fixpoint : goal.decreases-label_fixpoint
decreases-label_fixpoint l =
    paired (length l.self.now.letters.now) (size-at l.self.now.rows.now l.s.0) (length l.self.now.letters.now + 1)

abbrev pub decreases-label_open : goal.decreases-label_open
decreases-label_open l =
    paired (length l.self.now.letters.now) (size-at l.self.now.rows.now l.s.0) (length l.self.now.letters.now + 2)

abbrev pub decreases-round : goal.decreases-round
decreases-round l = paired (length l.self.now.letters.now) (size-at l.self.now.rows.now l.s.0) 0

abbrev pub decreases-rounds : goal.decreases-rounds
decreases-rounds l = paired (length l.self.now.letters.now) (size-at l.self.now.rows.now l.s.0) l.left
