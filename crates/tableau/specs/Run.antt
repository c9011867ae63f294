-- Runs of the tableau: transitions one after another. Assumes nothing.
use mathlib.Core.List.{List, [], ◌∷◌, ◌++◌, Memᴰ}
use Rattle.formula.specs.Table.{Table}
use Rattle.tableau.specs.Saturation.{Subset}
use Rattle.tableau.specs.Transition.{Transition, transitions}
use Rattle.tableau.specs.Nodes.{root}

-- the transitions, one after another, lead from the first node to the last
pub data Along (t : Table) (v : Subset) : List Transition → Subset → Type 0 where
  stay : Along t v [] v
  on : {u : Subset} {ss : List Transition} {s : Transition} → Along t v ss u → Memᴰ s (transitions t u)
      → Along t v (ss ++ (s ∷ [])) s.to

-- a node that some transitions lead to from the root
abbrev pub Reachable : Table → Subset → Type 0
Reachable t v = (ss : List Transition) × Along t (root t) ss v
