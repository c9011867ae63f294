-- `profile_search::mix_row` takes a row of bytes into a hash. The invariant: the first g are in their sum.
use Rattle.std.proofs.Common.{◌≡◌, ℕ, ◌+◌, ◌*◌, ◌^◌, ◌≤◌, List}
use mathlib.Core.List.{foldl}
use Rattle.profile_search.specs.Stored.{row_of, mixed}
use Rattle.profile_search.proofs.mix_row.Given as goal

-- the first g bytes of row f are in the sum
pub record Summed (t : List ℕ) (f sum g : ℕ) : Type 0 where
  pub small : sum + 37 ≤ 37 * 8 ^ g
  pub sum_is : sum ≡ foldl mixed 0 (row_of t g f)

abbrev pub invariant-loop-g : goal.invariant-loop-g
invariant-loop-g l = Summed l.t l.f l.sum l.g
