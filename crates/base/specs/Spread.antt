-- Breadth-first search as code keeps it: one list that grows at its end. Turn i goes on from item i and adds what is new. An item is a
-- vertex with 1 + the number of the item that it was reached from, 0 for a start, and a label. proofs/MatchLaws.antt shows that this finds
-- what the search of specs/Search.antt finds, in the same order. Assumes nothing.
use Rattle.std.specs.Prelude.{Bool, cond, List, [], ◌∷◌, ◌++◌, ℕ, zero, suc, ◌≤◌, ◌<◌, eqb, drop}
use Rattle.base.specs.Lists.{any}

-- an item: its vertex, the item before it, the label between
pub record Numbered (L K : Type 0) : Type 0 where
  pub at : K
  pub parent : ℕ
  pub label : L

module _ {L K : Type 0} (same : K → K → Bool) where
  -- whether an item is at a vertex
  abbrev pub seen : K → List (Numbered L K) → Bool
  seen k xs = any (λ x. same x.at k) xs

  -- the item at the end, unless its vertex is there
  abbrev pub add : List (Numbered L K) → Numbered L K → List (Numbered L K)
  add xs x = cond (seen x.at xs) xs (xs ++ (x ∷ []))

  -- the same for each item of a second list
  abbrev pub adds : List (Numbered L K) → List (Numbered L K) → List (Numbered L K)
  adds xs [] = xs
  adds xs (y ∷ ys) = adds (add xs y) ys

  module _ (onward : ℕ → Numbered L K → List (Numbered L K)) where
    -- one turn: what item p leads to is added
    abbrev pub spread_on : (List (Numbered L K) → List (Numbered L K)) → ℕ → List (Numbered L K) → List (Numbered L K) → List (Numbered L K)
    spread_on go p xs [] = xs
    spread_on go p xs (x ∷ rest) = go (adds xs (onward p x))

    -- the search from item p on
    abbrev pub spread : ℕ → ℕ → List (Numbered L K) → List (Numbered L K)
    spread zero p xs = xs
    spread (suc fuel) p xs = spread_on (spread fuel (suc p)) p xs (drop p xs)

module _ {L K : Type 0} where
  -- what an item adds to the labels of its parent's way: its label, also where it is a start
  abbrev pub each_label : Numbered L K → List L
  each_label x = x.label ∷ []

  -- the same, but nothing where it is a start: the way to a start is empty
  abbrev pub edge_label : Numbered L K → List L
  edge_label x = cond (eqb x.parent 0) [] (x.label ∷ [])

  -- The labels along the parents up to item k - 1, where `of` gives the item of each number and `own` what it adds. With k for fuel all are
  -- found, since a parent has a smaller number.
  abbrev pub labels_up : (own : Numbered L K → List L) → (ℕ → Numbered L K) → (fuel k : ℕ) → List L
  labels_up own of zero k = []
  labels_up own of (suc fuel) zero = []
  labels_up own of (suc fuel) (suc i) = labels_up own of fuel (of i).parent ++ own (of i)

  -- the same with enough fuel
  abbrev pub labels_to : (own : Numbered L K → List L) → (ℕ → Numbered L K) → ℕ → List L
  labels_to own of k = labels_up own of k k

  -- The parents of the first n items have smaller numbers than they.
  abbrev pub Linked : (ℕ → Numbered L K) → ℕ → Type 0
  Linked of n = (i : ℕ) → i < n → (of i).parent ≤ i
