-- `profile_search::extend` adds one profile followed by each of one transition. The invariant: the first q of these are done. Those before
-- the first that is tried begin before the profile's last node, and those behind the last one begin after it.
use Rattle.std.proofs.Common.{ℕ, ◌≤◌, List}
use Rattle.profile_search.specs.declared.placed.Store.{Store}
use Rattle.profile_search.specs.Stored.{Grown}
use Rattle.profile_search.proofs.TurnLaws.{extended}
use Rattle.profile_search.proofs.extend.Given as goal

-- the first q are done
pub record Turned (s : Store) (a : List ℕ) (p singles count : ℕ) (b : List ℕ) (all q : ℕ) : Type 0 where
  pub turn : q ≤ singles
  pub room : all ≤ s.capacity
  pub grown : Grown s count a all b (extended s count p a q)

abbrev pub invariant-loop-q : goal.invariant-loop-q
invariant-loop-q l = Turned l.store l.initial.area l.p l.singles l.count l.area l.all l.q
