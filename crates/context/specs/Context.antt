-- Contexts: what stands around a subformula, a formula with a hole in its place. MEANING 11.2. Assumes nothing.
use Rattle.std.specs.Prelude.{Bool, ℕ, ◌+◌}
use Rattle.formula.specs.Formula.{Formula, size}

-- The hole itself, or an operator one of whose operands has the hole in it.
pub data Context : Type 0 where
  hole : Context
  left : (either : Bool) → Context → Formula → Context
  right : (either : Bool) → Formula → Context → Context
  next : Context → Context
  fix : (greatest : Bool) → Context → Context

-- the formula with a in the hole
abbrev pub plugged : Context → Formula → Formula
plugged Context.hole a = a
plugged (Context.left o c b) a = Formula.pair o (plugged c a) b
plugged (Context.right o b c) a = Formula.pair o b (plugged c a)
plugged (Context.next c) a = Formula.next (plugged c a)
plugged (Context.fix g c) a = Formula.fix g (plugged c a)

-- how many operators begin before the hole: the number of the subformula in it
abbrev pub number : Context → ℕ
number Context.hole = 0
number (Context.left o c b) = 1 + number c
number (Context.right o b c) = 1 + (size b + number c)
number (Context.next c) = 1 + number c
number (Context.fix g c) = 1 + number c
