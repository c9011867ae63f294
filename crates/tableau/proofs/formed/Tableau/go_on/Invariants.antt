-- `Tableau::go_on` goes on from one node after the other: after each turn the area holds what the search has found by then, and the
-- relation the transitions of the nodes passed, where it has room for them. It ends where there is no room for a node.
use Rattle.std.proofs.Common.{◌≡◌, ℕ, ◌≤◌, List, length}
use Rattle.tableau.specs.Area.{SlotsMarked}
use Rattle.tableau.specs.Steps.{StepsBefore}
use Rattle.tableau.specs.Found.{Finding, HasBlocks}
use Rattle.tableau.proofs.formed.Tableau.go_on.Given as goal

-- the search at turn i
pub record Turned (rows : List ℕ) (count from to known capacity : ℕ) (area₀ o₀ rel₀ : List ℕ) (i all : ℕ) (area slots o rel : List ℕ)
    : Type 0 where
  pub turn : i ≤ all
  pub high : all ≤ capacity
  pub same_area : length area ≡ length area₀
  pub same-notes : length o ≡ length o₀
  pub same_relation : length rel ≡ length rel₀
  pub marked : SlotsMarked all area slots
  pub found : (a : List ℕ) → Finding rows count capacity known from a area₀ o₀ → Finding rows count capacity all i a area o
  pub noted : HasBlocks rel₀ to → StepsBefore rows count from known area₀ rel₀ → StepsBefore rows count i all area rel

abbrev pub invariant-loop-i : goal.invariant-loop-i
invariant-loop-i l =
    Turned l.self.table.rows l.self.table.count l.from l.to l.known l.capacity l.initial.area l.initial.origins l.initial.relation
    l.i l.total l.area l.slots l.origins l.relation
