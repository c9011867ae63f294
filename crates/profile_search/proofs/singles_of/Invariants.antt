-- `profile_search::singles_of` adds the profiles of a node's transitions. The invariant: those of the choice words below `word` are done.
use Rattle.std.proofs.Common.{ℕ, ◌≤◌, List}
use Rattle.tableau.specs.Inner.{table_of}
use Rattle.profile_search.specs.declared.placed.Store.{Store}
use Rattle.profile_search.specs.Stored.{Grown}
use Rattle.profile_search.proofs.SingleLaws.{of_first}
use Rattle.profile_search.proofs.singles_of.Given as goal

-- the profiles of the choice words below `word` are added
pub record Turned (rows : List ℕ) (count : ℕ) (s : Store) (a : List ℕ) (nodes i had : ℕ) (b : List ℕ) (all word : ℕ) : Type 0 where
  pub room : all ≤ s.capacity
  pub grown : Grown s had a all b (of_first (table_of rows count) count s nodes a i had word)

abbrev pub invariant-loop-word : goal.invariant-loop-word
invariant-loop-word l =
    Turned l.ranked.tableau.now.table.rows l.ranked.tableau.now.table.count l.store l.initial.area l.nodes l.number.0 l.count l.area l.all
    l.word
