-- `Tableau::closed` follows the moves of all but the ors until the fringe is empty. Each turn takes a subformula out of it, and what comes
-- in comes into the set, so that twice what the set lacks, with the fringe, gets less.
use Rattle.std.proofs.Common.{◌+◌, ◌*◌, ◌-◌, ◌^◌}
use Rattle.tableau.specs.Fringe.{ClosingOf}
use Rattle.tableau.proofs.formed.Tableau.closed.Given as goal

abbrev pub invariant-loop-c : goal.invariant-loop-c
invariant-loop-c l = ClosingOf l.self.table.rows l.self.table.count l.node l.c

abbrev pub decreases-loop-c : goal.decreases-loop-c
decreases-loop-c l = 2 * (2 ^ 64 - l.c.set) + l.c.fringe
