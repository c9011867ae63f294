-- What the functions over the profiles of one transition ask and promise. The nodes stand as words at the beginning of the area, and the
-- store behind them. A reader of the decision's contract need not read it. Assumes nothing.
use Rattle.std.specs.Prelude.{◌≡◌, List, map, ℕ, ◌*◌, ◌^◌, ◌≤◌, ◌<◌, length}
use mathlib.Core.List.{Memᴰ}
use Rattle.base.specs.Bits.{bit}
use Rattle.base.specs.Lists.{range}
use Rattle.formula.specs.Table.{Table}
use Rattle.tableau.specs.Saturation.{Subset}
use Rattle.tableau.specs.Transition.{ors, Transition, by_word, transitions}
use Rattle.tableau.specs.Nodes.{operands}
use Rattle.tableau.specs.Inner.{table_of, UnmetOrs}
use Rattle.tableau.specs.Fringe.{CoreOf}
use Rattle.tableau.specs.Area.{eight, words_at}
use Rattle.tableau.specs.declared.Core.{Core}
use Rattle.profile_tables.specs.Runs.{FoundProfile, number_of, single_of}
use Rattle.profile_search.specs.declared.placed.Store.{Store}
use Rattle.profile_search.specs.declared.Source.{Source}
use Rattle.profile_search.specs.Stored.{StoreFits, Chained}

-- the set of a word, of that many subformulas
abbrev pub subset_of : (count word : ℕ) → Subset
subset_of count w = map (bit w) (range 0 count)

-- node i of the area
abbrev pub node_in : (count : ℕ) → List ℕ → (i : ℕ) → Subset
node_in count area i = subset_of count (eight area (8 * i))

-- its first nodes
abbrev pub nodes_in : (count : ℕ) → List ℕ → (nodes : ℕ) → List Subset
nodes_in count area nodes = map (subset_of count) (words_at area 0 nodes)

-- the profile of the transition of node i, which is the set v, with a choice word, if it exists
abbrev pub singles_by : Table → List Subset → (i : ℕ) → Subset → (choice_word : ℕ) → List FoundProfile
singles_by t vs i v x = map (single_of t vs i v) (by_word t x v)

-- What is asked: a store behind the nodes, over the operands of next, and nodes that are sets of subformulas, of which a transition leads
-- to one of them.
pub record SearchInput (rows : List ℕ) (count : ℕ) (s : Store) (nodes : ℕ) (area : List ℕ) : Type 0 where
  pub fits : StoreFits s (length area)
  pub nexts : s.n ≡ length (operands (table_of rows count))
  pub some : 0 < nodes
  pub few : nodes ≤ 1024
  pub behind : 8 * nodes ≤ s.base
  pub sets : (i : ℕ) → i < nodes → eight area (8 * i) < 2 ^ count
  pub closed : (i : ℕ) → i < nodes → (x : Transition) → Memᴰ x (transitions (table_of rows count) (node_in count area i))
      → number_of (nodes_in count area nodes) x.to < nodes

-- What is asked to add the profiles of node i behind the first had records: there is such a node, and these records have room.
pub record NodeReady (rows : List ℕ) (count : ℕ) (s : Store) (nodes : ℕ) (area : List ℕ) (i had : ℕ) : Type 0 where
  pub given : SearchInput rows count s nodes area
  pub node : i < nodes
  pub room : had ≤ s.capacity
  pub chained : Chained s area had

-- The node of a source is one of the area, with these bits unmet and this core, and there is such a choice word.
pub record ChoiceReady (rows : List ℕ) (count : ℕ) (area unmet : List ℕ) (core : Core) (from : Source) : Type 0 where
  pub set_is : from.set ≡ eight area (8 * from.number.0)
  pub unmet_is : UnmetOrs rows count from.set unmet
  pub core_is : CoreOf rows count core
  pub core_node : core.node ≡ from.set
  pub below : from.word < 2 ^ ors (table_of rows count)
