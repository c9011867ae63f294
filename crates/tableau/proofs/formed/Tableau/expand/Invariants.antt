-- `Tableau::expand` adds what the transitions of a node lead to, and notes them: after each turn, those of one choice word more. It ends
-- where there is no room for a node.
use Rattle.std.proofs.Common.{◌≡◌, ℕ, ◌≤◌, List, length}
use Rattle.relation.specs.Relation.{HasBlock}
use Rattle.tableau.specs.Area.{SlotsMarked}
use Rattle.tableau.proofs.NodeLoop.{Expanding}
use Rattle.tableau.proofs.StepLaws.{Noting}
use Rattle.tableau.proofs.formed.Tableau.expand.Given as goal

-- after as many turns as `word` says
pub record Turned (rows : List ℕ) (count i from known capacity : ℕ) (area₀ o₀ rel₀ : List ℕ) (all word : ℕ) (area slots o rel : List ℕ)
    : Type 0 where
  pub low : known ≤ all
  pub high : all ≤ capacity
  pub same_area : length area ≡ length area₀
  pub same-notes : length o ≡ length o₀
  pub same_relation : length rel ≡ length rel₀
  pub marked : SlotsMarked all area slots
  pub reached : Expanding rows count i from known capacity area₀ o₀ all word area o
  pub noted : HasBlock rel₀ i → Noting rows count i from known area₀ rel₀ all word area rel

abbrev pub invariant-loop-word : goal.invariant-loop-word
invariant-loop-word l =
    Turned l.self.table.rows l.self.table.count l.number.0 l.core.node l.known l.capacity l.initial.area l.initial.origins l.initial.relation
    l.all l.word l.area l.slots l.origins l.relation
