-- The transitions between the nodes in an area, noted by their numbers in a relation: what the functions that look nodes up, add them and
-- note transitions promise. They speak of the words in the area. A reader of the decision's contract need not read it. Assumes nothing.
use Rattle.std.specs.Prelude.{◌≡◌, ◌⊎◌, false, Option, Some, None, ℕ, ◌+◌, ◌*◌, ◌≤◌, ◌<◌, T, length}
use mathlib.Core.List.{List, Memᴰ}
use Rattle.base.specs.Lists.{member}
use Rattle.base.specs.Bits.{word}
use Rattle.relation.specs.Relation.{linked, Related}
use Rattle.tableau.specs.Saturation.{Subset}
use Rattle.tableau.specs.Transition.{Transition, transitions}
use Rattle.tableau.specs.Inner.{table_of}
use Rattle.tableau.specs.Area.{eight, words_at, SlotsMarked}
use Rattle.tableau.specs.declared.Added.{Added}
use Rattle.tableau.specs.declared.NodeNumber.{NodeNumber}
use Rattle.tableau.specs.declared.Target.{Target}

-- The set x stands at this number among the first `known` of the area, or it is none of them.
abbrev pub Located : (known : ℕ) (area : List ℕ) (x : ℕ) → Option NodeNumber → Type 0
Located known area x (Some n) = (n.0 < known) × (eight area (8 * n.0) ≡ x)
Located known area x None = member x (words_at area 0 known) ≡ false

-- The first nodes of an area are what they were.
pub record Stay (known : ℕ) (area area' : List ℕ) : Type 0 where
  pub is : (j : ℕ) → j < known → eight area' (8 * j) ≡ eight area (8 * j)

-- How many nodes are counted once a node was to come in: one more than there is room for if it had no room.
abbrev pub known_then : (capacity : ℕ) → Option Added → ℕ
known_then capacity None = capacity + 1
known_then capacity (Some r) = r.known

-- The set x stands at the number among those known that the answer says; those that were known stay, and all are marked.
pub record CameIn (known capacity x : ℕ) (area area' slots : List ℕ) (r : Added) : Type 0 where
  pub more : known ≤ r.known
  pub most : r.known ≤ capacity
  pub below : r.at.0 < r.known
  pub stands : eight area' (8 * r.at.0) ≡ x
  pub stay : Stay known area area'
  pub marked : SlotsMarked r.known area' slots

-- what is noted of a step of node i: nothing, if it leads nowhere, and else that it leads to the number of its node
abbrev pub Noted : (i : ℕ) → Option Target → (area' rel rel' : List ℕ) → (known : ℕ) → Type 0
Noted i None area' rel rel' known = rel' ≡ rel
Noted i (Some s) area' rel rel' known = (u : ℕ) × (u < known) × (eight area' (8 * u) ≡ s.to) × Related u i rel rel'

-- The step of node i is noted, and the nodes that were known stay.
pub record StepNoted (i : ℕ) (target : Option Target) (known : ℕ) (area area' rel rel' : List ℕ) (r : ℕ) : Type 0 where
  pub stay : Stay known area area'
  pub noted : Noted i target area' rel rel' r

-- Some transition of the node with one word leads to that with another.
abbrev pub LeadsTo : (rows : List ℕ) (count from to : ℕ) → Type 0
LeadsTo rows count from to =
    (v : Subset) → length v ≡ count → from ≡ word v
    → (s : Transition) × Memᴰ s (transitions (table_of rows count) v) × (word s.to ≡ to)

-- Each transition of the node with that word leads to a node of the area whose number the relation leads to from node i.
abbrev pub AllNoted : (rows : List ℕ) (count i from known : ℕ) (area rel : List ℕ) → Type 0
AllNoted rows count i from known area rel =
    (v : Subset) → length v ≡ count → from ≡ word v → (s : Transition) → Memᴰ s (transitions (table_of rows count) v)
    → (u : ℕ) × (u < known) × (eight area (8 * u) ≡ word s.to) × T (linked rel u i)

-- The transitions of node i are noted, and nothing else is.
pub record StepsOf (rows : List ℕ) (count i known : ℕ) (area area' rel rel' : List ℕ) (r : ℕ) : Type 0 where
  pub stay : Stay known area area'
  pub keeps : (u a : ℕ) → T (linked rel u a) → T (linked rel' u a)
  pub only : (u a : ℕ) → T (linked rel' u a)
      → T (linked rel u a) ⊎ ((a ≡ i) × (u < r) × LeadsTo rows count (eight area (8 * i)) (eight area' (8 * u)))
  pub all : AllNoted rows count i (eight area (8 * i)) r area' rel'

-- The relation has the transitions that lead from the first i nodes of the area to those that are known, and nothing else.
pub record StepsBefore (rows : List ℕ) (count i known : ℕ) (area rel : List ℕ) : Type 0 where
  pub only : (u a : ℕ) → T (linked rel u a)
      → (a < i) × (u < known) × LeadsTo rows count (eight area (8 * a)) (eight area (8 * u))
  pub all : (a : ℕ) → a < i → AllNoted rows count a (eight area (8 * a)) known area rel

-- The relation has all transitions between the nodes of the area, and nothing else.
abbrev pub StepsNoted : (rows : List ℕ) (count known : ℕ) (area rel : List ℕ) → Type 0
StepsNoted rows count known area rel = StepsBefore rows count known known area rel
