-- Profiles of runs, and which of them are rejecting: MEANING 4.3 to 4.5. Assumes nothing.
use Rattle.std.specs.Prelude.{Bool, false, not, ◌&&◌, List, [], ◌∷◌, map, ℕ, ◌+◌, ◌*◌, ◌^◌, eqb, length}
use Rattle.base.specs.Lists.{flat_map, any, alike, tail}
use Rattle.base.specs.Search.{Edge, Item, search_from}
use Rattle.formula.specs.Table.{Operator, Table, operator}
use Rattle.tableau.specs.Saturation.{Subset, same_subset}
use Rattle.tableau.specs.Transition.{Transition, transitions}
use Rattle.profile.specs.Traces.{Triple, same_triple, all_triples, triples, meet, join}

-- The profile of a run: the nodes at its two ends, and the triples of its traces.
pub record Profile : Type 0 where
  pub first : Subset
  pub last : Subset
  pub triple_set : List Triple

-- whether two profiles are equal
abbrev pub same_profile : Profile → Profile → Bool
same_profile a b =
    same_subset a.first b.first && same_subset a.last b.last && alike same_triple a.triple_set b.triple_set

-- the profile of a run of one transition from v
abbrev pub single : Table → Subset → Transition → Profile
single t v s = record { first = v; last = s.to; triple_set = triples t v s.choice }

-- the profile of a run with one transition more
abbrev pub extended : Table → Profile → Transition → Profile
extended t p s = record { first = p.first; last = s.to; triple_set = join t p.triple_set (triples t p.last s.choice) }

-- a run of one transition as a start of a search
abbrev pub single_item : Table → Subset → Transition → Item Transition Profile
unfolding triples
single_item t v s = record { way = s ∷ []; at = single t v s }

-- one transition more as an edge of a search
abbrev pub longer : Table → Profile → Transition → Edge Transition Profile
unfolding triples join
longer t p s = record { label = s; to = extended t p s }

-- all runs that have one transition more
abbrev pub profile_edges : Table → Profile → List (Edge Transition Profile)
unfolding triples join
profile_edges t p = map (longer t p) (transitions t p.last)

-- more than there can be profiles of k nodes
abbrev pub profile_room : Table → ℕ → ℕ
profile_room t k = 1 + k * k * 2 ^ length (all_triples t)

-- All profiles, given the nodes, of which the root is the first and begins no run; P is how many. Each comes with the
-- transitions of the first of the shortest runs that have it (proofs/ProfileLaws.antt).
unfoldable pub profiles : Table → List (Item Transition Subset) → List (Item Transition Profile)
unfolding triples join transitions
profiles t ns =
    search_from same_profile (profile_edges t) (profile_room t (length ns))
    (flat_map (λ (n : Item Transition Subset). map (single_item t n.at) (transitions t n.at)) (tail ns))

-- what one triple more makes of a triple, by the triples of a set
abbrev pub lap_edges : List Triple → Triple → List (Edge Triple Triple)
lap_edges xs a = flat_map (λ (b : Triple). map (λ (c : Triple). record { label = b; to = c }) (meet a b)) xs

-- more than there can be triples made of parts of these
abbrev pub lap_room : List Triple → ℕ
lap_room xs = 1 + length xs * length xs * length xs

-- what joining the triples of a set gives, none joined included: the traces of any number of laps of a cycle
abbrev pub laps : List Triple → List (Item Triple Triple)
laps xs =
    search_from same_triple (lap_edges xs) (lap_room xs)
    (map (λ (a : Triple). record { way = a ∷ []; at = a }) xs)

-- whether an operator is a least fixpoint
abbrev pub is_least : Operator → Bool
is_least (Operator.leaf l) = false
is_least (Operator.variable m) = false
is_least (Operator.pair o l r) = false
is_least (Operator.next g) = false
is_least (Operator.fix g l) = not g

-- MEANING 4.4: whether a set of triples is rejecting (document 01: bad)
unfoldable pub rejecting : Table → List Triple → Bool
rejecting t xs =
    any (λ (x : Item Triple Triple). eqb x.at.from x.at.to && is_least (operator t x.at.priority)) (laps xs)

-- MEANING 4.5: whether the run of a profile is an accepting cycle (document 01: a good loop)
abbrev pub accepting : Table → Item Transition Profile → Bool
unfolding rejecting
accepting t x = same_subset x.at.first x.at.last && not (rejecting t x.at.triple_set)
