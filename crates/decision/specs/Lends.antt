-- What the questions 11 to 13 ask, as facts. Assumes nothing.
use Rattle.std.specs.Prelude.{◌≡◌, ℕ, ◌≤◌}
use Rattle.construction.specs.Construction.{max_nodes}
use Rattle.decision.specs.Verdict.{max_profiles, workspace_size, witness_size}

-- Question 11: the capacities are in range.
pub record Capacity (N M : ℕ) : Type 0 where
  pub some_nodes : 1 ≤ N
  pub few_nodes : N ≤ max_nodes
  pub some_profiles : 1 ≤ M
  pub few_profiles : M ≤ max_profiles

-- The questions 11, 12 and 13: both areas are large enough, too.
pub record Lends (N M workspace buffer : ℕ) : Type 0 where
  pub capacity : Capacity N M
  pub workspace_fits : workspace_size N M ≤ workspace
  pub buffer_fits : witness_size N M ≤ buffer

-- How much a caller is to lend for these capacities: a size, or nothing where question 11 refuses them.
pub record ToLend (N M size r : ℕ) : Type 0 where
  pub in_range : Capacity N M → r ≡ size
  pub out_of_range : (Capacity N M → ⊥) → r ≡ 0
