-- `Tableau::widest` follows the moves under both choices, first those under the lower one.
use Rattle.tableau.specs.Fringe.{moves_both}
use Rattle.tableau.proofs.formed.Tableau.widest.Given as goal

abbrev pub ghost-followed : goal.ghost-followed
ghost-followed a = moves_both a.step.0.now.table.rows a.step.1.now a.step.2.now
