-- The nodes that the root reaches, each with the first of the shortest runs to it: MEANING 3.1 and 3.7. Assumes nothing.
use Rattle.std.specs.Prelude.{true, cond, List, [], ◌∷◌, map, ℕ, ◌+◌, ◌^◌, length, set}
use Rattle.base.specs.Lists.{flat_map}
use Rattle.base.specs.Search.{Edge, Item, search_from}
use Rattle.formula.specs.Table.{Table}
use Rattle.tableau.specs.Saturation.{Subset, same_subset, nothing}
use Rattle.tableau.specs.Transition.{Transition, transitions, next_of}

-- the root: the set of subformula 0
abbrev pub root : Table → Subset
root t = set (nothing t) 0 true

-- the transitions of a node as edges of a search
abbrev pub edges : Table → Subset → List (Edge Transition Subset)
unfolding transitions
edges t v = map (λ (s : Transition). record { label = s; to = s.to }) (transitions t v)

-- the operands of next by rising number: a node other than the root has no other subformulas
abbrev pub operands : Table → List ℕ
operands t = flat_map next_of t

-- All nodes, those without transitions too; K is how many. They are at most 1 + 2^n (MEANING 5.6), so that fuel is enough
-- (proofs/NodeLaws.antt).
unfoldable pub nodes : Table → List (Item Transition Subset)
unfolding transitions
nodes t = search_from same_subset (edges t) (2 + 2 ^ length (operands t)) (record { way = []; at = root t } ∷ [])

-- the way by which the search came to a node
abbrev pub stem_to : Subset → List (Item Transition Subset) → List Transition
stem_to v [] = []
stem_to v (n ∷ ns) = let r = stem_to v ns in cond (same_subset v n.at) n.way r
