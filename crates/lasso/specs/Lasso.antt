-- A lasso (document 01: a course), and the truth of a formula on it by rounds: MEANING 2.1 to 2.4. Assumes nothing.
use Rattle.std.specs.Prelude.{Bool, true, false, not, cond, ◌&&◌, ◌||◌, List, [], ◌∷◌, ◌++◌, map, ℕ, ltb, length, get_or}
use Rattle.base.specs.Lists.{all, range, iterate, tail}
use Rattle.base.specs.Bits.{bit, word}
use Rattle.letters.specs.Alphabet.{in_alphabet}
use Rattle.formula.specs.Formula.{Leaf, Formula}

-- The letters (document 01: values of places), stem and cycle, and the length of the stem (document 01: lead-in): MEANING 2.1.
pub record Lasso : Type 0 where
  pub letters : List ℕ
  pub stem : ℕ

-- MEANING 2.1: a lasso over the alphabet: each of its letters is in it.
unfoldable pub over_alphabet : Lasso → Bool
unfolding in_alphabet
over_alphabet c = all in_alphabet c.letters

-- A set of positions (document 01: places): a Bool for each.
abbrev pub Positions : Type 0
Positions = List Bool

-- Whether a constant or a signal is true at a position with this letter.
abbrev pub leaf_at : Leaf → ℕ → Bool
leaf_at (Leaf.constant b) letter = b
leaf_at (Leaf.signal present j) letter = cond present (bit letter j) (not (bit letter j))

-- Whether an or, or an and, is true where its operands are as told.
abbrev pub joined : (either : Bool) → Bool → Bool → Bool
joined true a b = a || b
joined false a b = a && b

-- The union, or the intersection, of two sets.
abbrev pub combine : Bool → Positions → Positions → Positions
combine o [] t = []
combine o (a ∷ s) [] = []
combine o (a ∷ s) (b ∷ t) = joined o a b ∷ combine o s t

-- The positions whose successor is in a set: each but the last has the one behind it, the last has the first behind the stem.
abbrev pub before : (stem : ℕ) → Positions → Positions
before stem s = tail s ++ (get_or s stem false ∷ [])

-- MEANING 2.2: the positions where a formula is true, given the sets of the fixpoints around it, innermost first. A fixpoint has as many
-- rounds as there are letters, and starts where g says: at no position or at all.
abbrev pub holds : Lasso → Formula → List Positions → Positions
holds c (Formula.leaf l) ρ = map (leaf_at l) c.letters
holds c (Formula.variable d) ρ = get_or ρ d []
holds c (Formula.pair o a b) ρ = combine o (holds c a ρ) (holds c b ρ)
holds c (Formula.next a) ρ = before c.stem (holds c a ρ)
holds c (Formula.fix g a) ρ = iterate (length c.letters) (λ s. holds c a (s ∷ ρ)) (map (λ _. g) c.letters)

-- MEANING 2.3: the sets of the subformulas inside a formula, by their numbers; in a fixpoint's body from the fixpoint's final set.
abbrev pub inner : Lasso → Formula → List Positions → List Positions
inner c (Formula.leaf l) ρ = []
inner c (Formula.variable d) ρ = []
inner c (Formula.pair o a b) ρ = (holds c a ρ ∷ inner c a ρ) ++ (holds c b ρ ∷ inner c b ρ)
inner c (Formula.next a) ρ = holds c a ρ ∷ inner c a ρ
inner c (Formula.fix g a) ρ = let s = holds c (Formula.fix g a) ρ in holds c a (s ∷ ρ) ∷ inner c a (s ∷ ρ)

-- The sets of all its subformulas.
abbrev pub sets : Lasso → Formula → List Positions → List Positions
sets c f ρ = holds c f ρ ∷ inner c f ρ

-- The word of a position (MEANING 2.6): bit e for subformula e, and no others.
abbrev pub label : List Positions → ℕ → ℕ
label ss i = word (map (λ (s : Positions). get_or s i false) ss)

-- The words of all positions (document 01: truth words).
unfoldable pub labelling : Lasso → Formula → List ℕ
labelling c f = let ss = sets c f [] in map (label ss) (range 0 (length c.letters))

-- MEANING 2.4: a lasso meets a formula.
unfoldable pub meets : Lasso → Formula → Bool
meets c f = let s = holds c f [] in ltb c.stem (length c.letters) && get_or s 0 false
