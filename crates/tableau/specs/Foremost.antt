-- Which run in the shape of a lasso is the first of all: MEANING 5.4. It is said for any cycles that count, so that each operation that
-- gives a witness chooses by this one order. Assumes nothing.
use Rattle.std.specs.Prelude.{◌≡◌, List, ◌∷◌, ◌++◌, map, ℕ, ◌≤◌, length}
use Rattle.base.specs.Order.{NoLater}
use Rattle.formula.specs.Table.{Table}
use Rattle.tableau.specs.Saturation.{Subset}
use Rattle.tableau.specs.Transition.{Transition, choice_word}
use Rattle.tableau.specs.Nodes.{root}
use Rattle.tableau.specs.Run.{Along}

-- the choice words of transitions, one after another
abbrev pub choice_words : Table → List Transition → List ℕ
choice_words t ss = map (λ (s : Transition). choice_word t s.choice) ss

-- A run from the root to a node, the stem, followed by a cycle of this node that counts.
pub record LassoRun (t : Table) (Counts : Subset → List Transition → Type 0) (stem cycle : List Transition) : Type 0 where
  pub node : Subset
  pub leads : Along t (root t) stem node
  pub counts : Counts node cycle

-- The first of them. No cycle that counts has fewer transitions; of the runs with a cycle of that length none has a stem with fewer; and of
-- the runs with both lengths none has choice words that come first, those of the stem in front of those of the cycle.
pub record Foremost (t : Table) (Counts : Subset → List Transition → Type 0) (stem cycle : List Transition) : Type 0 where
  pub is_one : LassoRun t Counts stem cycle
  pub cycle_fewest : (rs ss : List Transition) → LassoRun t Counts rs ss → length cycle ≤ length ss
  pub stem_fewest : (rs ss : List Transition) → LassoRun t Counts rs ss → length ss ≡ length cycle → length stem ≤ length rs
  pub words_first : (rs ss : List Transition) → LassoRun t Counts rs ss → length ss ≡ length cycle → length rs ≡ length stem
      → NoLater (choice_words t (stem ++ cycle)) (choice_words t (rs ++ ss))

-- The same order as one sequence of numbers for each run (proofs/ForemostLaws.antt).
abbrev pub standing : Table → (stem cycle : List Transition) → List ℕ
standing t stem cycle = length cycle ∷ length stem ∷ choice_words t (stem ++ cycle)
