-- `sweep`: the words passed have the bit as the operator says of the words before the sweep; if none changed, all are as they were.
-- Assumes nothing.
use Rattle.std.proofs.Common.{◌≡◌, Bool, false, List, ℕ}
use Rattle.formula.specs.Rows.{operator_at}
use Rattle.lasso.specs.Lasso.{Lasso}
use Rattle.lasso.specs.Inner.{course, local_at, Swept}
use Rattle.lasso.proofs.labeller.Labeller.sweep.Given as goal

-- the first i words are swept
pub record Invariant (rows : List ℕ) (c : Lasso) (e : ℕ) (w v : List ℕ) (changed : Bool) (i : ℕ) : Type 0 where
  pub swept : Swept i e (local_at c (operator_at rows e) w) w v
  pub still : changed ≡ false → v ≡ w

abbrev pub invariant-loop-i : goal.invariant-loop-i
invariant-loop-i l = Invariant l.self.rows.now (course l.self) l.s.0 l.initial.words l.words l.changed l.i
