-- `Tableau::saturated` follows the moves of the choice from where the core leaves off.
use Rattle.tableau.specs.Fringe.{moves_at}
use Rattle.tableau.proofs.formed.Tableau.saturated.Given as goal

abbrev pub ghost-followed : goal.ghost-followed
ghost-followed a = moves_at a.step.0.now.table.rows a.step.1.now
