-- What the rows of a table say to code above: the operator of each subformula and where it ends, and nothing of how they are laid out.
-- Assumes nothing.
use Rattle.std.specs.Prelude.{ℕ, ◌≤◌, ◌<◌, List}
use Rattle.formula.specs.Formula.{Leaf}
use Rattle.formula.specs.Table as definitions
use Rattle.formula.specs.Rows.{operator_at, end_at}
use Rattle.formula.specs.declared.Table.{Table}
use Rattle.formula.specs.declared.Operator.{Operator}
use Rattle.formula.specs.declared.Operator.TheVariants.{Constant, Signal, Variable, Pair, Next, Fixpoint}

-- the definition's operator for each of the code's
abbrev pub decoded : Operator → definitions.Operator
decoded (Constant b) = definitions.Operator.leaf (Leaf.constant b)
decoded (Signal present j) = definitions.Operator.leaf (Leaf.signal present j)
decoded (Variable m) = definitions.Operator.variable m.0
decoded (Pair either l r) = definitions.Operator.pair either l.0 r.0
decoded (Next g) = definitions.Operator.next g.0
decoded (Fixpoint greatest b) = definitions.Operator.fix greatest b.0

-- Every number in an operator is below n; a signal is 0 to 15 (MEANING 1.4, question 6).
abbrev pub Fits : (n : ℕ) → definitions.Operator → Type 0
Fits n (definitions.Operator.leaf (Leaf.constant b)) = Unit {0}
Fits n (definitions.Operator.leaf (Leaf.signal present j)) = j ≤ 15
Fits n (definitions.Operator.variable m) = m < n
Fits n (definitions.Operator.pair either l r) = (l < n) × (r < n)
Fits n (definitions.Operator.next g) = g < n
Fits n (definitions.Operator.fix greatest b) = b < n

-- Subformula e has a place in the rows, and its operator is about subformulas that have one.
pub record Placed (rows : List ℕ) (e : ℕ) : Type 0 where
  pub place : e < 48
  pub fits : Fits 48 (operator_at rows e)

-- What code that looks into a table may count on: its subformulas are few, each has a place and ends within the table.
pub record Readable (t : Table) : Type 0 where
  pub few : t.count ≤ 48
  pub placed : (e : ℕ) → e < t.count → Placed t.rows e
  pub ends : (e : ℕ) → e < t.count → end_at t.rows e ≤ t.count
