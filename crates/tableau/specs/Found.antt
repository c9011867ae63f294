-- The search for the nodes, in parts: what is known of it between two turns, and what one part promises. A reader of the decision's
-- contract need not read it. Assumes nothing.
use Rattle.std.specs.Prelude.{◌≡◌, List, [], ◌∷◌, map, ℕ, ◌≤◌, ◌<◌, min, length}
use Rattle.base.specs.Lists.{At}
use Rattle.base.specs.Spread.{spread}
use Rattle.relation.specs.Relation.{HasBlock}
use Rattle.formula.specs.Table.{Table}
use Rattle.tableau.specs.Saturation.{same_subset}
use Rattle.tableau.specs.Inner.{table_of, Formed}
use Rattle.tableau.specs.Area.{NodesHeld, reachable, SlotsMarked, ReachedNode, worded, root_reached, outs, ReachedSized}
use Rattle.tableau.specs.Area.{NodesNoted}
use Rattle.tableau.specs.Steps.{StepsBefore}

-- what node i leads to
abbrev pub onward_from : Table → (i : ℕ) → ReachedNode → List ReachedNode
onward_from t i x = outs t i x.at

-- The nodes after i turns of the search are in the area, which was a.
pub record Finding (rows : List ℕ) (count capacity known i : ℕ) (a area o : List ℕ) : Type 0 where
  pub found : List ReachedNode
  pub turns : spread same_subset (onward_from (table_of rows count)) i 0 (root_reached (table_of rows count) ∷ []) ≡ found
  pub sized : ReachedSized (length (table_of rows count)) found
  pub others : (j : ℕ) (x : ReachedNode) → At found j x → 0 < j → 0 < x.parent
  pub keeps : NodesNoted capacity known a area o (map worded found)

-- The root is in the area, which was a.
pub record Begun (capacity : ℕ) (a area slots o : List ℕ) : Type 0 where
  pub marked : SlotsMarked 1 area slots
  pub found : (rows : List ℕ) (count : ℕ) → Formed rows count → Finding rows count capacity 1 0 a area o

-- the list of a relation has the blocks of all numbers below this one
abbrev pub HasBlocks : List ℕ → ℕ → Type 0
HasBlocks rel to = (j : ℕ) → j < to → HasBlock rel j

-- The search goes over from turn `from` to turn `to`, or to the last if it ends before: the nodes, their marks, and their transitions where
-- the relation has room for them. Where there are more nodes than room, it may stop before, and the first of them are there.
pub record GoneOn (rows : List ℕ) (count from to known capacity : ℕ) (area o rel area' slots' o' rel' : List ℕ) (r : ℕ) : Type 0 where
  pub full : capacity < r → (a : List ℕ) → Finding rows count capacity known from a area o
      → NodesHeld capacity r a area' (reachable (table_of rows count))
  pub found : r ≤ capacity → (a : List ℕ) → Finding rows count capacity known from a area o
      → Finding rows count capacity r (min to r) a area' o'
  pub marked : r ≤ capacity → SlotsMarked r area' slots'
  pub noted : r ≤ capacity → HasBlocks rel to → StepsBefore rows count from known area rel
      → StepsBefore rows count (min to r) r area' rel'

-- The root came into the area, which was a, and from there the search went over from its beginning to turn `to`.
pub record Searched (rows : List ℕ) (count to capacity : ℕ) (a rel area' slots' o' rel' : List ℕ) (r : ℕ) : Type 0 where
  pub area : List ℕ
  pub origins : List ℕ
  pub begun : Finding rows count capacity 1 0 a area origins
  pub gone : GoneOn rows count 0 to 1 capacity area origins rel area' slots' o' rel' r
