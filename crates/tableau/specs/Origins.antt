-- Where the search came to each node from: what the code notes beside the nodes, so that a stem costs no search of its own. The note of
-- node j is two numbers: the number of the node that the search came from, and the letter of the transition between. A reader of the
-- decision's contract need not read it. Assumes nothing.
use Rattle.std.specs.Prelude.{◌≡◌, List, [], ◌∷◌, ◌++◌, map, ℕ, ◌+◌, ◌*◌, ◌<◌, get_or}
use Rattle.formula.specs.Table.{Table}
use Rattle.tableau.specs.Transition.{letter}
use Rattle.tableau.specs.Nodes.{nodes}

-- the letters of the way by which the search comes to node j
abbrev pub way_letters : Table → ℕ → List ℕ
unfolding nodes
way_letters t j =
    map letter (get_or (nodes t) j (record { way = []; at = [] })).way

-- the number of the node that the search came from to node j
abbrev pub parent_at : List ℕ → ℕ → ℕ
parent_at o j = get_or o (2 * j) 0

-- the letter of the transition from there
abbrev pub letter_at : List ℕ → ℕ → ℕ
letter_at o j = get_or o (2 * j + 1) 0

-- The note of node j is right: its parent has a smaller number, and the way to it goes on from the parent's by one letter.
pub record Origin (t : Table) (o : List ℕ) (j : ℕ) : Type 0 where
  pub before : parent_at o j < j
  pub onward : way_letters t j ≡ way_letters t (parent_at o j) ++ (letter_at o j ∷ [])

-- The notes of the first n nodes are right. The root has none.
pub record Origins (t : Table) (o : List ℕ) (n : ℕ) : Type 0 where
  pub is : (j : ℕ) → 0 < j → j < n → Origin t o j
