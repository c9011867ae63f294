-- `profile_search::singles` adds the profiles of one transition, node by node. The invariant: those of the nodes before i are done.
use Rattle.std.proofs.Common.{ℕ, ◌≤◌, ◌<◌, List}
use Rattle.tableau.specs.Inner.{table_of}
use Rattle.profile_search.specs.declared.placed.Store.{Store}
use Rattle.profile_search.specs.Stored.{Grown}
use Rattle.profile_search.proofs.SingleLaws.{all_first}
use Rattle.profile_search.proofs.singles.Given as goal

-- the profiles of the nodes before i are added
pub record Turned (rows : List ℕ) (count : ℕ) (s : Store) (a : List ℕ) (nodes : ℕ) (b : List ℕ) (all i : ℕ) : Type 0 where
  pub some : 0 < i
  pub room : all ≤ s.capacity
  pub grown : Grown s 0 a all b (all_first (table_of rows count) count nodes a i)

abbrev pub invariant-loop-i : goal.invariant-loop-i
invariant-loop-i l = Turned l.ranked.tableau.now.table.rows l.ranked.tableau.now.table.count l.store l.initial.area l.nodes l.area l.all l.i
