-- The way in the bytes to a variable, and the binder on it that the variable names: what refusal 8 says (MEANING 1.4), without a reader.
-- proofs/NamedBinder.antt has the law. Assumes nothing.
use Rattle.std.specs.Prelude.{◌≡◌, Bool, true, false, List, [], ◌∷◌, ◌++◌, ℕ, ◌+◌, length}
use Rattle.base.specs.Lists.{flat_map, any, filter}
use Rattle.formula.specs.Formula.{Leaf, Formula}
use Rattle.formula.specs.Reading.{Opcode, byte_of}

-- The bytes of a formula: MEANING 1.1.
abbrev pub spelled : Formula → List ℕ
spelled (Formula.leaf (Leaf.constant b)) = byte_of (Opcode.constant b) ∷ []
spelled (Formula.leaf (Leaf.signal present s)) = byte_of (Opcode.signal present) ∷ s ∷ []
spelled (Formula.variable d) = byte_of Opcode.variable ∷ d ∷ []
spelled (Formula.pair o a b) = byte_of (Opcode.pair o) ∷ (spelled a ++ spelled b)
spelled (Formula.next a) = byte_of Opcode.next ∷ spelled a
spelled (Formula.fix g a) = byte_of (Opcode.fix g) ∷ spelled a

-- From an operator in to one of its operands: to the left one of an or or and, to the right one past the left one, to the operand of a
-- next, to the body of a fixpoint.
pub data Descent : Type 0 where
  left : (either : Bool) → Descent
  right : (either : Bool) → Formula → Descent
  next : Descent
  body : (greatest : Bool) → Descent

-- the bytes that it passes
abbrev pub descent_bytes : Descent → List ℕ
descent_bytes (Descent.left o) = byte_of (Opcode.pair o) ∷ []
descent_bytes (Descent.right o a) = byte_of (Opcode.pair o) ∷ spelled a
descent_bytes Descent.next = byte_of Opcode.next ∷ []
descent_bytes (Descent.body g) = byte_of (Opcode.fix g) ∷ []

-- those of a way, from outside in
abbrev pub way_bytes : List Descent → List ℕ
way_bytes way = flat_map descent_bytes way

-- whether it leads in from a next,
abbrev pub from_next : Descent → Bool
from_next (Descent.left o) = false
from_next (Descent.right o a) = false
from_next Descent.next = true
from_next (Descent.body g) = false

-- and whether from a fixpoint
abbrev pub from_fixpoint : Descent → Bool
from_fixpoint (Descent.left o) = false
from_fixpoint (Descent.right o a) = false
from_fixpoint Descent.next = false
from_fixpoint (Descent.body g) = true

-- how many fixpoints a way enters
abbrev pub fixpoints_on : List Descent → ℕ
fixpoints_on way = length (filter from_fixpoint way)

-- a way to a fixpoint, and on from it into its body
abbrev pub through : (outer : List Descent) (greatest : Bool) (inner : List Descent) → List Descent
through outer greatest inner = outer ++ (Descent.body greatest ∷ inner)

-- The byte at `place` is the depth of a variable, the one at `binder-at` that of a fixpoint which the variable lies in. On the way in from
-- that fixpoint to the variable are as many further fixpoints as the depth says (MEANING 1.2), and no next. (`behind`: the bytes behind
-- the depth.)
pub record NamesUnguarded (bytes : List ℕ) (place binder-at : ℕ) : Type 0 where
  pub outer : List Descent
  pub greatest : Bool
  pub inner : List Descent
  pub depth : ℕ
  pub behind : List ℕ
  pub bytes_are : bytes ≡ way_bytes (through outer greatest inner) ++ (byte_of Opcode.variable ∷ depth ∷ behind)
  pub place_is : place ≡ length (way_bytes (through outer greatest inner)) + 1
  pub binder_at_is : binder-at ≡ length (way_bytes outer)
  pub depth_is : depth ≡ fixpoints_on inner
  pub no_next : any from_next inner ≡ false
