-- `profile_search::layer` goes on from each record of a layer in turn. The invariant: what the search has found up to number p is in the
-- area.
use Rattle.std.proofs.Common.{ℕ, ◌≤◌, List}
use Rattle.profile_search.specs.declared.placed.Store.{Store}
use Rattle.profile_search.proofs.TurnLaws.{Pending}
use Rattle.profile_search.proofs.layer.Given as goal

-- the loop has come to number p
pub record Turned (s : Store) (singles from to : ℕ) (a b : List ℕ) (all p : ℕ) : Type 0 where
  pub room : all ≤ s.capacity
  pub pending : Pending s singles from to a p all b

abbrev pub invariant-loop-p : goal.invariant-loop-p
invariant-loop-p l = Turned l.store l.singles l.from l.to l.initial.area l.area l.all l.p
