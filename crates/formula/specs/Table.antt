-- A formula as the list of its subformulas (document 01: entries) by their numbers: MEANING 1.3. Element e is the operator of
-- subformula e, with the numbers of its operands. Assumes nothing.
use Rattle.std.specs.Prelude.{Bool, true, false, List, [], ◌∷◌, ◌++◌, ℕ, zero, suc, ◌+◌, get_or}
use Rattle.formula.specs.Formula.{Leaf, Formula, size}

-- An operator among numbered subformulas. A variable has the number of its binder.
pub data Operator : Type 0 where
  leaf : Leaf → Operator
  variable : (binder : ℕ) → Operator
  pair : (either : Bool) → (left right : ℕ) → Operator
  next : (operand : ℕ) → Operator
  fix : (greatest : Bool) → (body : ℕ) → Operator

-- whether an operator is an or
abbrev pub is_or : Operator → Bool
is_or (Operator.leaf l) = false
is_or (Operator.variable m) = false
is_or (Operator.pair o l r) = o
is_or (Operator.next g) = false
is_or (Operator.fix g b) = false

-- whether it is a next
abbrev pub is_next : Operator → Bool
is_next (Operator.leaf l) = false
is_next (Operator.variable m) = false
is_next (Operator.pair o l r) = false
is_next (Operator.next g) = true
is_next (Operator.fix g b) = false

-- whether it is a fixpoint
abbrev pub is_fix : Operator → Bool
is_fix (Operator.leaf l) = false
is_fix (Operator.variable m) = false
is_fix (Operator.pair o l r) = false
is_fix (Operator.next g) = false
is_fix (Operator.fix g b) = true

-- the subformulas of a formula
abbrev pub Table : Type 0
Table = List Operator

-- the operator of subformula e
abbrev pub operator : Table → ℕ → Operator
operator t e = get_or t e (Operator.leaf (Leaf.constant false))

-- The subformulas of a formula whose first one is e, inside the fixpoints of the given numbers, innermost first.
abbrev pub table_from : ℕ → List ℕ → Formula → Table
table_from e binders (Formula.leaf l) = Operator.leaf l ∷ []
table_from e binders (Formula.variable d) = Operator.variable (get_or binders d 0) ∷ []
table_from e binders (Formula.pair o a b) =
    Operator.pair o (e + 1) (e + 1 + size a) ∷ (table_from (e + 1) binders a ++ table_from (e + 1 + size a) binders b)
table_from e binders (Formula.next a) = Operator.next (e + 1) ∷ table_from (e + 1) binders a
table_from e binders (Formula.fix g a) = Operator.fix g (e + 1) ∷ table_from (e + 1) (e ∷ binders) a

-- The subformulas of a formula.
unfoldable pub table : Formula → Table
table f = table_from 0 [] f

-- For each subformula the number after its last one, which is its own with its length: an operator's subformulas are those from its own
-- number up to that.
abbrev pub ends_from : ℕ → Formula → List ℕ
ends_from e (Formula.leaf l) = (e + 1) ∷ []
ends_from e (Formula.variable d) = (e + 1) ∷ []
ends_from e (Formula.pair o a b) = (e + size (Formula.pair o a b)) ∷ (ends_from (e + 1) a ++ ends_from (e + 1 + size a) b)
ends_from e (Formula.next a) = (e + size (Formula.next a)) ∷ ends_from (e + 1) a
ends_from e (Formula.fix g a) = (e + size (Formula.fix g a)) ∷ ends_from (e + 1) a

-- For each subformula its length: how many subformulas it has, itself among them.
abbrev pub lengths : Formula → List ℕ
lengths (Formula.leaf l) = 1 ∷ []
lengths (Formula.variable d) = 1 ∷ []
lengths (Formula.pair o a b) = size (Formula.pair o a b) ∷ (lengths a ++ lengths b)
lengths (Formula.next a) = size (Formula.next a) ∷ lengths a
lengths (Formula.fix g a) = size (Formula.fix g a) ∷ lengths a

-- What reading hands back of an accepted formula.
pub record Entries : Type 0 where
  pub operators : Table
  pub lengths : List ℕ

-- the same for a formula
abbrev pub entries : Formula → Entries
unfolding table
entries f = record { operators = table f; lengths = lengths f }

-- How many bytes an operator's spelling begins with: its opcode, and the operand byte of a signal or a variable.
abbrev pub width : Operator → ℕ
width (Operator.leaf (Leaf.constant b)) = 1
width (Operator.leaf (Leaf.signal present s)) = 2
width (Operator.variable m) = 2
width (Operator.pair o l r) = 1
width (Operator.next g) = 1
width (Operator.fix g b) = 1

-- how many the first n operators of a table begin with, together
abbrev pub bytes_before : Table → ℕ → ℕ
bytes_before t zero = 0
bytes_before [] (suc n) = 0
bytes_before (o ∷ t) (suc n) = width o + bytes_before t n
