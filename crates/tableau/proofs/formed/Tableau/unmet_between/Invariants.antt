-- `Tableau::unmet_between` has the bits of the ors outside the widest set: after e turns, of those in the first e rows. So a choice word
-- between low and high with one of these bits picks at an or that is not met.
use Rattle.std.proofs.Common.{◌≤◌}
use Rattle.tableau.proofs.UnmetLaws.{Outside}
use Rattle.tableau.proofs.formed.Tableau.unmet_between.Given as goal

-- the bits of the ors outside the set, of which n are in the first e rows
abbrev pub invariant-loop-e : goal.invariant-loop-e
invariant-loop-e l = (l.n ≤ l.e) × Outside l.self.table.rows l.e l.wide l.bits l.n
