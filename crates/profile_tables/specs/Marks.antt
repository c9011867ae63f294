-- The traces of a transition by marks: for each subformula the priorities with which traces reach it. Assumes nothing.
use Rattle.std.specs.Prelude.{Bool, false, cond, ◌||◌, List, [], ◌∷◌, ◌++◌, map, ℕ, suc, ◌*◌, eqb, length, get_or, set}
use Rattle.base.specs.Lists.{range, iterate}
use Rattle.formula.specs.Table.{Operator, Table, is_fix}
use Rattle.tableau.specs.Saturation.{Subset, has, moves}
use Rattle.tableau.specs.Transition.{next_of}
use Rattle.profile.specs.Profiles.{is_least}
use Rattle.profile_tables.specs.Triples.{smaller, Triples}

-- for each subformula the set of priorities, a Bool for each of 8
abbrev pub Marks : Type 0
Marks = List (List Bool)

-- the set of the priorities that a test holds of
abbrev pub priorities : (ℕ → Bool) → List Bool
priorities q = map q (range 0 8)

-- whether a priority is in a set
abbrev pub bit_of : List Bool → ℕ → Bool
bit_of r x = get_or r x false

-- what the k-th fixpoint, or another operator, passes on: its own priority counts
unfoldable pub passed : Operator → ℕ → List Bool → List Bool
unfolding smaller
passed o k r = cond (is_fix o) (priorities (smaller (bit_of r) (eqb k))) r

-- some subformulas are reached with these priorities too
abbrev pub mark : List ℕ → List Bool → Marks → Marks
mark [] r v = v
mark (m ∷ ms) r v = mark ms r (set v m (priorities (λ x. bit_of (get_or v m []) x || bit_of r x)))

-- what the operators from subformula e on, of which the next fixpoint is the k-th, add
abbrev pub sweep : Table → (choice : Subset) → ℕ → ℕ → Marks → Marks
unfolding passed
sweep [] w e k v = v
sweep (o ∷ t) w e k v = sweep t w (suc e) (cond (is_fix o) (suc k) k) (mark (moves o (has w e)) (passed o k (get_or v e [])) v)

-- no priority
abbrev pub blank : List Bool
blank = priorities (λ x. false)

-- with which priorities the traces from f reach each subformula in the transition with choice w; a fixpoint's own priority counts
-- when it passes them on
abbrev pub reached : Table → (choice : Subset) → ℕ → Marks
unfolding passed
reached t w f = iterate (8 * length t) (sweep t w 0 0) (set (map (λ o. blank) t) f (priorities (eqb 7)))

-- the subformulas that are next, from the left
abbrev pub nexts_from : ℕ → Table → List ℕ
nexts_from e [] = []
nexts_from e (o ∷ t) = let r = nexts_from (suc e) t in map (λ (g : ℕ). e) (next_of o) ++ r

-- the row of an operand in a set of triples: the marks of each next, or nothing where the operand is not in the node
abbrev pub row_of : List ℕ → Bool → Marks → List (List Bool)
row_of ns b v = map (λ e. cond b (get_or v e []) blank) ns

-- the triples of the transition with choice w from node v
unfoldable pub triples : Table → Subset → (choice : Subset) → Triples
unfolding passed
triples t v w = let ns = nexts_from 0 t in map (λ e. let r = reached t w (suc e) in row_of ns (has v (suc e)) r) ns

-- which of the fixpoints are least ones
abbrev pub leasts : Table → List Bool
leasts [] = []
leasts (o ∷ t) = let r = leasts t in cond (is_fix o) (is_least o ∷ r) r
