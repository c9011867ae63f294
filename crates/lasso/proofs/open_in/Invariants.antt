-- `lasso::open_in` goes over the numbers inside e. The loop's invariant: those before k are gone through. A closed subformula is passed
-- over, so what is left falls by its size. Assumes nothing.
use Rattle.std.proofs.Common.{◌≡◌, List, ℕ, ◌-◌}
use Rattle.formula.specs.Rows.{end_at}
use Rattle.lasso.proofs.CodeOpen.{Opens}
use Rattle.lasso.proofs.open_in.Given as goal

-- what the loop keeps: where e ends, and what is found before k
pub record Invariant (rows : List ℕ) (e end k mask : ℕ) : Type 0 where
  pub last : end ≡ end_at rows e
  pub opening : Opens rows e k mask

abbrev pub invariant-loop-k : goal.invariant-loop-k
invariant-loop-k l = Invariant l.rows l.fn.s.0 l.end l.k l.mask

abbrev pub decreases-loop-k : goal.decreases-loop-k
decreases-loop-k l = l.end - l.k
