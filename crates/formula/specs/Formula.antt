-- A formula of the linear-time mu-calculus as a tree (document 01: a rule). MEANING 1.1. Assumes nothing.
use Rattle.std.specs.Prelude.{Bool, ℕ, ◌+◌}

-- The operators 01 to 04, which have no operand formula: true or false; a signal's presence or absence, by the signal's number.
pub data Leaf : Type 0 where
  constant : Bool → Leaf
  signal : (present : Bool) → ℕ → Leaf

-- All operators. A variable has its depth (MEANING 1.2). A pair is an or where its Bool is true, else an and; a fix is a greatest
-- fixpoint where its Bool is true, else a least one.
pub data Formula : Type 0 where
  leaf : Leaf → Formula
  variable : (depth : ℕ) → Formula
  pair : (either : Bool) → Formula → Formula → Formula
  next : Formula → Formula
  fix : (greatest : Bool) → Formula → Formula

-- How many operators a formula has.
abbrev pub size : Formula → ℕ
size (Formula.leaf l) = 1
size (Formula.variable d) = 1
size (Formula.pair o a b) = 1 + (size a + size b)
size (Formula.next a) = 1 + size a
size (Formula.fix g a) = 1 + size a
