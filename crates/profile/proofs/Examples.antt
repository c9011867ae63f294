-- The first two mistakes of MEANING 8 in judging cycles, each with a formula that shows it, computed from the definitions through the
-- reading of the bytes. Assumes nothing.
use mathlib.Core.Path.{◌≡◌, refl}
use mathlib.Core.Bool.{Bool, false, not, ◌&&◌}
use mathlib.Core.List.{List, [], ◌∷◌, map}
use Prim.Native.Nat.{ℕ}
use lib.Dec.{eqb}
use lib.ListN.{length}
use Rattle.base.specs.Lists.{any, filter}
use Rattle.base.specs.Search.{Item}
use Rattle.formula.specs.Formula.{Leaf, Formula}
use Rattle.formula.specs.Table.{Table, table, operator}
use Rattle.formula.specs.Reading.{Reading, parse}
use Rattle.tableau.specs.Saturation.{same_subset}
use Rattle.tableau.specs.Transition.{Transition}
use Rattle.tableau.specs.Nodes.{nodes}
use Rattle.profile.specs.Traces.{Triple}
use Rattle.profile.specs.Profiles.{Profile, profiles, is_least, rejecting, accepting}

-- the formula that was read
abbrev pub formula_of : Reading Formula → Formula
formula_of (Reading.refused why) = Formula.leaf (Leaf.constant false)
formula_of (Reading.accepted f) = f

-- case I of MEANING 5.9, where two triples lead from 4 to 5 and back
abbrev pub I : Formula
unfolding parse
I = formula_of (parse (0x0A ∷ 0x07 ∷ 0x09 ∷ 0x08 ∷ 0x08 ∷ 0x05 ∷ 0x00 ∷ 0x08 ∷ 0x05 ∷ 0x00 ∷ []))

-- its case `ours`, where a least fixpoint waits for the position after: always, two positions on, signal 0
abbrev pub waits : Formula
unfolding parse
waits = formula_of (parse (0x0A ∷ 0x07 ∷ 0x08 ∷ 0x09 ∷ 0x08 ∷ 0x03 ∷ 0x00 ∷ 0x08 ∷ 0x05 ∷ 0x00 ∷ []))

-- one lap: a cycle none of whose triples goes back to where it began with a least fixpoint
abbrev pub after_one_lap : Table → Item Transition Profile → Bool
after_one_lap t x =
    same_subset x.at.first x.at.last
    && not (any (λ (a : Triple). eqb a.from a.to && is_least (operator t a.priority)) x.at.triple_set)

-- nothing waits: a cycle none of whose triples has a least fixpoint
abbrev pub nothing-waits : Table → Item Transition Profile → Bool
nothing-waits t x =
    same_subset x.at.first x.at.last && not (any (λ (a : Triple). is_least (operator t a.priority)) x.at.triple_set)

-- the lengths of the runs, one for each profile, that a test accepts
abbrev pub lengths : Formula → (Table → Item Transition Profile → Bool) → List ℕ
unfolding table nodes profiles
lengths f test = map (λ (x : Item Transition Profile). length x.way) (filter (test (table f)) (profiles (table f) (nodes (table f))))

-- By one lap I has cycles to accept, and it has none; if nothing may wait the shortest cycle is not found.
pub judged :
    map (lengths I) (after_one_lap ∷ accepting ∷ []) ∷ map (lengths waits) (nothing-waits ∷ accepting ∷ []) ∷ []
    ≡ ((1 ∷ 3 ∷ []) ∷ [] ∷ []) ∷ ((2 ∷ []) ∷ (1 ∷ 2 ∷ []) ∷ []) ∷ []
unfolding parse table nodes profiles rejecting
judged = refl
