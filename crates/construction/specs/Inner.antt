-- What the functions promise that build. A reader of the contract of building need not read it. Assumes nothing.
use Rattle.std.specs.Prelude.{◌≡◌, List, ℕ, length, Result}
use Rattle.formula.specs.Table.{Table}
use Rattle.construction.specs.Construction.{ask_room}
use Rattle.construction.specs.Contract.{says, leaves}
use Rattle.construction.specs.declared.Refusal as code

-- The answer to all questions after reading, and what it leaves.
pub record Settled (t : Table) (N : ℕ) (workspace workspace' : List ℕ) (r : Result ℕ code.Refusal) : Type 0 where
  pub answered : r ≡ says (ask_room N (length workspace) t)
  pub worked : workspace' ≡ leaves N (ask_room N (length workspace) t) workspace
