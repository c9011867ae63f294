-- The transitions of a node (document 01: its steps): what one requires, when it exists, its letter, and its target. MEANING 3.2 to 3.5.
-- Assumes nothing.
use Rattle.std.specs.Prelude.{Bool, true, false, not, cond, ◌&&◌, List, [], ◌∷◌, map, ℕ, ◌+◌, ◌/◌, ◌%◌, ◌^◌, eqb}
use Rattle.base.specs.Lists.{flat_map, any, member, range, same_bit}
use Rattle.base.specs.Bits.{word}
use Rattle.letters.specs.Requirements.{clash, letter_of}
use Rattle.letters.specs.declared.Requirement.{Requirement}
use Rattle.formula.specs.Formula.{Leaf}
use Rattle.formula.specs.Table.{Operator, Table, is_or}
use Rattle.tableau.specs.Saturation.{Subset, nothing, add, saturate}

-- the operators of the subformulas in a set
abbrev pub operators_in : Table → Subset → List Operator
operators_in [] v = []
operators_in (o ∷ t) [] = []
operators_in (o ∷ t) (true ∷ v) = o ∷ operators_in t v
operators_in (o ∷ t) (false ∷ v) = operators_in t v

-- the signal that an operator requires present, or absent
abbrev pub requires : (present : Bool) → Operator → List ℕ
requires p (Operator.leaf (Leaf.constant b)) = []
requires p (Operator.leaf (Leaf.signal q j)) = cond (same_bit p q) (j ∷ []) []
requires p (Operator.variable m) = []
requires p (Operator.pair o l r) = []
requires p (Operator.next g) = []
requires p (Operator.fix g l) = []

-- whether an operator is false
abbrev pub is_false : Operator → Bool
is_false (Operator.leaf (Leaf.constant b)) = not b
is_false (Operator.leaf (Leaf.signal q j)) = false
is_false (Operator.variable m) = false
is_false (Operator.pair o l r) = false
is_false (Operator.next g) = false
is_false (Operator.fix g l) = false

-- MEANING 3.4: the signals that operators require present, or absent, as a word of 16 bits: bit j is set exactly if signal j is one
unfoldable pub required_word : (present : Bool) → List Operator → ℕ
required_word p os = let signals = flat_map (requires p) os in word (map (λ j. member j signals) (range 0 16))

-- the requirement of a set with these operators (document 01: what the set requires): both words, in the type of the code
abbrev pub requirement : List Operator → Requirement
requirement os = record { present = required_word true os; absent = required_word false os }

-- MEANING 3.4: whether a set with these operators gives a transition
unfoldable pub possible : List Operator → Bool
unfolding required_word clash
possible os = not (any is_false os) && not (clash (requirement os))

-- MEANING 3.5: the operand of a next, which belongs to the target
abbrev pub next_of : Operator → List ℕ
next_of (Operator.leaf l) = []
next_of (Operator.variable m) = []
next_of (Operator.pair o l r) = []
next_of (Operator.next g) = g ∷ []
next_of (Operator.fix g l) = []

-- how many or operators there are
abbrev pub ors : Table → ℕ
ors [] = 0
ors (o ∷ t) = cond (is_or o) 1 0 + ors t

-- The choice of a choice word. The ors are counted by rising number of their subformulas; bit j is for or j, and 1 means right.
abbrev pub choice_of : Table → ℕ → Subset
choice_of [] x = []
choice_of (o ∷ t) x = cond (is_or o) (eqb (x % 2) 1 ∷ choice_of t (x / 2)) (false ∷ choice_of t x)

-- what a choice takes at the ors, one after another: whether right
abbrev pub picks : Table → Subset → List Bool
picks [] w = []
picks (o ∷ t) [] = []
picks (o ∷ t) (b ∷ w) = let r = picks t w in cond (is_or o) (b ∷ r) r

-- The choice word of a choice (document 02: pick word): bit j is for or j. `choice_of` reads it back (proofs/ChoiceWords.antt).
abbrev pub choice_word : Table → Subset → ℕ
choice_word t w = word (picks t w)

-- all choices, by rising choice word
abbrev pub choices : Table → List Subset
choices t = map (choice_of t) (range 0 (2 ^ ors t))

-- MEANING 3.2: a choice takes the right operand of no or outside the saturation, so that a transition has one choice
abbrev pub within : Subset → Subset → Bool
within [] v = true
within (false ∷ w) [] = within w []
within (true ∷ w) [] = false
within (false ∷ w) (b ∷ v) = within w v
within (true ∷ w) (true ∷ v) = within w v
within (true ∷ w) (false ∷ v) = false

-- a transition of a node: its choice, what it requires of a letter, and its target
pub record Transition : Type 0 where
  pub choice : Subset
  pub required : Requirement
  pub to : Subset

-- the letter of a transition
abbrev pub letter : Transition → ℕ
letter s = letter_of s.required

-- the transition with choice w whose saturated set is s, if it exists
abbrev pub transition_of : Table → Subset → Subset → List Transition
unfolding possible
transition_of t w s =
    let os = operators_in t s in
    let found : Transition = record { choice = w; required = requirement os; to = add (flat_map next_of os) (nothing t) } in
    let one = found ∷ [] in
    cond (within w s && possible os) one []

-- the transition of a node under a choice word, if it exists
abbrev pub by_word : Table → (choice_word : ℕ) → Subset → List Transition
by_word t x v = transition_of t (choice_of t x) (saturate t (choice_of t x) v)

-- the transitions of a node, by rising choice word
unfoldable pub transitions : Table → Subset → List Transition
unfolding possible
transitions t v = flat_map (λ w. transition_of t w (saturate t w v)) (choices t)
