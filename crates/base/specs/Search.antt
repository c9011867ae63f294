-- Breadth-first search in a graph that is given by the edges out of each vertex. An item is a vertex with the labels of a way to it.
-- proofs/SearchLaws.antt says what is found without speaking of fuel. Assumes nothing.
use Rattle.std.specs.Prelude.{Bool, cond, List, [], ◌∷◌, ◌++◌, map, ℕ, zero, suc, leb, length}
use Rattle.base.specs.Lists.{any, filter}

-- an edge out of a vertex: its label, and the vertex that it leads to
pub record Edge (L K : Type 0) : Type 0 where
  pub label : L
  pub to : K

-- a vertex, with the labels of a way to it
pub record Item (L K : Type 0) : Type 0 where
  pub way : List L
  pub at : K

module _ {L K : Type 0} (same : K → K → Bool) (edges : K → List (Edge L K)) where
  -- an item's way with one edge more
  abbrev pub onward : Item L K → Edge L K → Item L K
  onward x e = record { way = x.way ++ (e.label ∷ []); at = e.to }

  -- whether an item is at a vertex
  abbrev pub seen_in : List (Item L K) → K → Bool
  seen_in xs k = any (λ x. same k x.at) xs

  -- the items at vertices that are not yet seen, the first at each
  abbrev pub fresh : List (Item L K) → List (Item L K) → List (Item L K)
  fresh seen [] = []
  fresh seen (x ∷ xs) =
      let old = fresh seen xs in
      let new = x ∷ fresh (x ∷ seen) xs in
      cond (seen_in seen x.at) old new

  -- done: gone on from; queue: seen, and not yet gone on from
  abbrev pub walk : ℕ → List (Item L K) → List (Item L K) → List (Item L K)
  walk zero done queue = done ++ queue
  walk (suc fuel) done [] = done
  walk (suc fuel) done (x ∷ queue) =
      walk fuel (done ++ (x ∷ [])) (queue ++ fresh (done ++ (x ∷ queue)) (map (onward x) (edges x.at)))

  -- all that is found from the given items with that fuel, in order of first visit
  abbrev pub search_from : ℕ → List (Item L K) → List (Item L K)
  search_from fuel starts = walk fuel [] (fresh [] starts)

-- the items whose ways have at most l labels
abbrev pub within : {L K : Type 0} → (l : ℕ) → List (Item L K) → List (Item L K)
within l xs = filter (λ x. leb (length x.way) l) xs
