-- Traces of a transition, their priorities (document 01: weights) and triples: MEANING 4.1 and 4.2. The priority none is the number of
-- subformulas, which is larger than any of theirs. Assumes nothing.
use Rattle.std.specs.Prelude.{Bool, cond, ◌&&◌, List, [], ◌∷◌, map, ℕ, suc, ◌+◌, ◌*◌, min, eqb, length}
use Rattle.base.specs.Lists.{flat_map, any, filter}
use Rattle.base.specs.Search.{Edge, Item, search_from}
use Rattle.formula.specs.Table.{Table, operator, is_fix}
use Rattle.tableau.specs.Saturation.{Subset, has, moves}
use Rattle.tableau.specs.Transition.{next_of}
use Rattle.tableau.specs.Nodes.{operands}

-- What is kept of a trace: where it begins, its priority, where it ends.
pub record Triple : Type 0 where
  pub from : ℕ
  pub priority : ℕ
  pub to : ℕ

-- whether two triples are equal
abbrev pub same_triple : Triple → Triple → Bool
same_triple a b = eqb a.from b.from && eqb a.priority b.priority && eqb a.to b.to

-- A trace on its way: the subformula that it has come to, and the lowest fixpoint so far, this subformula counted.
pub record TraceState : Type 0 where
  pub subformula : ℕ
  pub priority : ℕ

-- whether two such places are equal
abbrev pub same_trace_state : TraceState → TraceState → Bool
same_trace_state a b = eqb a.subformula b.subformula && eqb a.priority b.priority

-- having come to subformula e with priority x
abbrev pub trace_state : Table → ℕ → ℕ → TraceState
trace_state t x e = record { subformula = e; priority = cond (is_fix (operator t e)) (min x e) x }

-- the moves of MEANING 3.3 as edges of a search
abbrev pub move_edges : Table → (choice : Subset) → TraceState → List (Edge ℕ TraceState)
move_edges t w s =
    map (λ (m : ℕ). record { label = m; to = trace_state t s.priority m }) (moves (operator t s.subformula) (has w s.subformula))

-- what the traces from f can come to under a choice; f counts for the priority
abbrev pub trace_states : Table → (choice : Subset) → ℕ → List (Item ℕ TraceState)
trace_states t w f = search_from same_trace_state (move_edges t w) (1 + length t * suc (length t))
    (record { way = []; at = trace_state t (length t) f } ∷ [])

-- the triple of a trace from f that has come to a next: it ends in the operand
abbrev pub ends : Table → ℕ → TraceState → List Triple
ends t f s = map (λ (g : ℕ). record { from = f; priority = s.priority; to = g }) (next_of (operator t s.subformula))

-- the priorities: the fixpoints by rising number, then none
abbrev pub priorities_from : ℕ → Table → List ℕ
priorities_from e [] = e ∷ []
priorities_from e (o ∷ t) = let r = priorities_from (suc e) t in cond (is_fix o) (e ∷ r) r

-- All triples in one fixed order: a set of triples is the part of this list that it holds, so that equal sets are equal lists.
abbrev pub all_triples : Table → List Triple
all_triples t =
    flat_map (λ (f : ℕ). flat_map (λ (x : ℕ). map (λ (g : ℕ). record { from = f; priority = x; to = g }) (operands t))
    (priorities_from 0 t)) (operands t)

-- the set of some triples
abbrev pub set_of : Table → List Triple → List Triple
set_of t xs = filter (λ x. any (same_triple x) xs) (all_triples t)

-- the triples of the transition with choice w from node v
unfoldable pub triples : Table → Subset → (choice : Subset) → List Triple
triples t v w = set_of t (flat_map (λ f. cond (has v f) (flat_map (λ (x : Item ℕ TraceState). ends t f x.at) (trace_states t w f)) [])
    (operands t))

-- MEANING 4.2: one trace after another, with the lower priority
abbrev pub joined : Triple → Triple → Triple
joined a b = record { from = a.from; priority = min a.priority b.priority; to = b.to }

-- that, where the one begins in what the other ends in
abbrev pub meet : Triple → Triple → List Triple
meet a b = cond (eqb a.to b.from) (joined a b ∷ []) []

-- the triples of a run, given those of its two parts
unfoldable pub join : Table → List Triple → List Triple → List Triple
join t xs ys = set_of t (flat_map (λ a. flat_map (meet a) ys) xs)
