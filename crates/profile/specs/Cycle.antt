-- Runs with their profiles, and accepting cycles (document 01: good loops), without search and fuel. MEANING 4.3 to 4.5. Assumes nothing.
use Rattle.std.specs.Prelude.{◌≡◌, T}
use mathlib.Core.List.{List, [], ◌∷◌, ◌++◌, Memᴰ}
use Rattle.formula.specs.Table.{Table, operator}
use Rattle.tableau.specs.Saturation.{Subset}
use Rattle.tableau.specs.Transition.{Transition, transitions}
use Rattle.tableau.specs.Run.{Reachable}
use Rattle.profile.specs.Traces.{Triple, joined}
use Rattle.profile.specs.Profiles.{Profile, single, extended, is_least}

-- A run, by its profile and its transitions: MEANING 4.3.
pub data Run (t : Table) : Profile → List Transition → Type 0 where
  one : {v : Subset} {s : Transition} → Memᴰ s (transitions t v) → Run t (single t v s) (s ∷ [])
  more : {p : Profile} {ss : List Transition} {s : Transition} → Run t p ss → Memᴰ s (transitions t p.last)
      → Run t (extended t p s) (ss ++ (s ∷ []))

-- The triples that joining gives, starting from any of the set and going on by any of it.
pub data Lap (xs : List Triple) : Triple → Type 0 where
  once : {a : Triple} → Memᴰ a xs → Lap xs a
  again : {a b : Triple} → Lap xs a → Memᴰ b xs → a.to ≡ b.from → Lap xs (joined a b)

-- MEANING 4.4 (document 01: bad), with the triple that makes it so.
pub record Rejecting (t : Table) (xs : List Triple) : Type 0 where
  pub triple : Triple
  pub lap : Lap xs triple
  pub back : triple.from ≡ triple.to
  pub least : T (is_least (operator t triple.priority))

-- the profile of a run from a node back to it
abbrev pub around : Subset → List Triple → Profile
around v xs = record { first = v; last = v; triple_set = xs }

-- MEANING 4.5: these transitions are an accepting cycle of node v.
pub record AcceptingCycle (t : Table) (v : Subset) (ss : List Transition) : Type 0 where
  pub reachable : Reachable t v
  pub triple_set : List Triple
  pub run : Run t (around v triple_set) ss
  pub accepts : Rejecting t triple_set → ⊥
