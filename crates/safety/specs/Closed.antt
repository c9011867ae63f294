-- Runs from a reachable node back to it, without profiles: of a formula without a least fixpoint these are the cycles that count
-- (proofs/EveryCycle.antt). MEANING 5.14. Assumes nothing.
use Rattle.std.specs.Prelude.{List, ◌<◌, length}
use Rattle.formula.specs.Table.{Table}
use Rattle.tableau.specs.Saturation.{Subset}
use Rattle.tableau.specs.Transition.{Transition}
use Rattle.tableau.specs.Run.{Along, Reachable}

-- These transitions, of which there is at least one, lead from reachable node v back to it.
pub record ClosedRun (t : Table) (v : Subset) (ss : List Transition) : Type 0 where
  pub reachable : Reachable t v
  pub some_step : 0 < length ss
  pub back : Along t v ss v
