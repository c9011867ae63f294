-- Tables with a subformula replaced, as the definition computes them. The formula is the greatest fixpoint of (s0 or next X) and next X,
-- with subformulas 0 to 7. In the first example a subformula gives place to a longer one: rows around it become longer, the right operands
-- and the rows behind it move up, binders before it stay. In the second it gives place to a shorter one, so that they move down. In the
-- third the new formula has a fixpoint of its own, and its variable's binder moves with it. In the last all rows give place. Assumes
-- nothing.
use mathlib.Core.Path.{◌≡◌, refl}
use mathlib.Core.Bool.{true, false}
use mathlib.Core.List.{List, [], ◌∷◌, map}
use Prim.Native.Nat.{ℕ}
use Rattle.formula.specs.Formula.{Leaf, Formula}
use Rattle.formula.specs.Table.{Operator, Table, table, entries}
use Rattle.context.specs.Renumbered.{replaced_entries}

abbrev signal : ℕ → Formula
signal s = Formula.leaf (Leaf.signal true s)

-- next X, X being the innermost fixpoint around
abbrev next_X : Formula
next_X = Formula.next (Formula.variable 0)

abbrev rule : Formula
rule = Formula.fix true (Formula.pair false (Formula.pair true (signal 0) next_X) next_X)

-- the greatest fixpoint of next X
abbrev always : Formula
always = Formula.fix true next_X

-- with subformula `number` of the formula replaced
pub record Example : Type 0 where
  pub number : ℕ
  pub new : Formula
  pub operators : Table
  pub lengths : List ℕ

abbrev is : ℕ → Formula → Table → List ℕ → Example
is e g t k = record { number = e; new = g; operators = t; lengths = k }

abbrev s : ℕ → Operator
s i = Operator.leaf (Leaf.signal true i)

abbrev pub examples : List Example
examples =
    is 3 (Formula.next (signal 1))
    (Operator.fix true 1
    ∷ Operator.pair false 2 7
    ∷ Operator.pair true 3 5
    ∷ Operator.next 4
    ∷ s 1
    ∷ Operator.next 6
    ∷ Operator.variable 0
    ∷ Operator.next 8
    ∷ Operator.variable 0
    ∷ [])
    (9 ∷ 8 ∷ 5 ∷ 2 ∷ 1 ∷ 2 ∷ 1 ∷ 2 ∷ 1 ∷ [])
    ∷ is 2 (signal 1)
    (Operator.fix true 1
    ∷ Operator.pair false 2 3
    ∷ s 1
    ∷ Operator.next 4
    ∷ Operator.variable 0
    ∷ [])
    (5 ∷ 4 ∷ 1 ∷ 2 ∷ 1 ∷ [])
    ∷ is 4 always
    (Operator.fix true 1
    ∷ Operator.pair false 2 7
    ∷ Operator.pair true 3 4
    ∷ s 0
    ∷ Operator.fix true 5
    ∷ Operator.next 6
    ∷ Operator.variable 4
    ∷ Operator.next 8
    ∷ Operator.variable 0
    ∷ [])
    (9 ∷ 8 ∷ 5 ∷ 1 ∷ 3 ∷ 2 ∷ 1 ∷ 2 ∷ 1 ∷ [])
    ∷ is 0 always
    (Operator.fix true 1
    ∷ Operator.next 2
    ∷ Operator.variable 0
    ∷ [])
    (3 ∷ 2 ∷ 1 ∷ [])
    ∷ []

pub examples_replaced : map (λ (x : Example). replaced_entries x.number (entries rule) (entries x.new)) examples
    ≡ map (λ (x : Example). record { operators = x.operators; lengths = x.lengths }) examples
unfolding table
examples_replaced = refl
