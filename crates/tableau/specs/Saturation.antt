-- Sets of subformulas, the moves within a transition and the saturation of a node: MEANING 3.1 to 3.3. Assumes nothing.
use Rattle.std.specs.Prelude.{Bool, true, false, cond, List, [], ◌∷◌, map, ℕ, suc, length, get_or, set}
use Rattle.base.specs.Lists.{iterate, alike, same_bit}
use Rattle.formula.specs.Table.{Operator, Table}

-- A set of subformulas: a Bool for each. A node is one. A choice (document 01: picks) is one too: the ors whose right operand is taken.
abbrev pub Subset : Type 0
Subset = List Bool

-- whether a subformula is in a set
abbrev pub has : Subset → ℕ → Bool
has v e = get_or v e false

-- whether two sets are equal
abbrev pub same_subset : Subset → Subset → Bool
same_subset v u = alike same_bit v u

-- the empty set
abbrev pub nothing : Table → Subset
nothing t = map (λ _. false) t

-- a set with some subformulas more
abbrev pub add : List ℕ → Subset → Subset
add [] v = v
add (m ∷ ms) v = add ms (set v m true)

-- MEANING 3.3: where the moves from a subformula lead, by its operator; the Bool is the pick of an or
abbrev pub moves : Operator → (right : Bool) → List ℕ
moves (Operator.leaf l) p = []
moves (Operator.variable m) p = m ∷ []
moves (Operator.pair true l r) p = cond p r l ∷ []
moves (Operator.pair false l r) p = l ∷ r ∷ []
moves (Operator.next g) p = []
moves (Operator.fix g l) p = l ∷ []

-- what the moves of the operators from subformula e on add to a set, in one pass
abbrev pub sweep : Table → (choice : Subset) → ℕ → Subset → Subset
sweep [] w e v = v
sweep (o ∷ t) w e v = sweep t w (suc e) (cond (has v e) (add (moves o (has w e)) v) v)

-- The saturation of a node under a choice. A pass that is not the last adds a subformula, so there are enough of them; and no smaller
-- set around the node is closed under the moves (proofs/SaturationLaws.antt).
abbrev pub saturate : Table → (choice : Subset) → Subset → Subset
saturate t w v = iterate (length t) (sweep t w 0) v
