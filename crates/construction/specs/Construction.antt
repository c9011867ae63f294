-- Building the nodes of a formula in a lent workspace: MEANING 5.11; and whether a workspace has them, question 36 of MEANING 5.12.
-- Assumes nothing.
use Rattle.std.specs.Prelude.{Bool, ◌&&◌, List, ◌++◌, map, ℕ, ◌-◌, ◌*◌, leb, eqb, length, take, replicate}
use Rattle.base.specs.Ask.{ask}
use Rattle.base.specs.Bits.{word}
use Rattle.base.specs.Bytes.{bytes_of}
use Rattle.base.specs.Lists.{flat_map, alike}
use Rattle.base.specs.Search.{Item}
use Rattle.formula.specs.Formula.{Formula}
use Rattle.formula.specs.Table.{Table, table}
use Rattle.formula.specs.Reading.{Reading, parse}
use Rattle.formula.specs.declared.Refusal.{Refusal}
use Rattle.construction.specs.declared.Question.{Question}
use Rattle.construction.specs.declared.Question.TheVariants.{Capacity, Workspace, Nodes}
use Rattle.tableau.specs.Saturation.{Subset}
use Rattle.tableau.specs.Transition.{Transition}
use Rattle.tableau.specs.Nodes.{nodes}

-- A refusal of reading; 11, 12 or 14; or the nodes as words, bit e for subformula e, in order of first visit. K is how many.
pub data Construction : Type 0 where
  unread : Refusal → Construction
  refused : Question → Construction
  built : (words : List ℕ) → Construction

-- whether a number is in a range, its ends included
abbrev pub between : ℕ → ℕ → ℕ → Bool
between low high n = leb low n && leb n high

-- the most nodes that there may be room for
abbrev pub max_nodes : ℕ
max_nodes = 1024

-- K
abbrev pub node_count : Table → ℕ
node_count t = length (nodes t)

-- the words of the nodes
abbrev pub node_words : Table → List ℕ
node_words t = map (λ (x : Item Transition Subset). word x.at) (nodes t)

-- how many bytes N nodes take
abbrev pub nodes_size : ℕ → ℕ
nodes_size N = 8 * N

-- the bytes of these words where there is room for N: eight for each, the lowest first, and zeros behind the last
abbrev pub laid_out : (N : ℕ) (words : List ℕ) → List ℕ
laid_out N words = flat_map (bytes_of 8) words ++ replicate (nodes_size N - nodes_size (length words)) 0

-- Question 14, and then the nodes.
unfoldable pub construct : (N : ℕ) → Table → Construction
unfolding nodes
construct N t = ask (leb (node_count t) N) (Construction.refused Nodes) (Construction.built (node_words t))

-- The questions 11 for N and 12 for its bytes, and what comes after them.
abbrev pub ask_room : (N workspace : ℕ) → Table → Construction
unfolding construct
ask_room N workspace t =
    ask (between 1 max_nodes N) (Construction.refused Capacity)
    (ask (leb (nodes_size N) workspace) (Construction.refused Workspace)
    (construct N t))

-- A refusal of reading is handed on.
abbrev pub after_reading : (N workspace : ℕ) → Reading Formula → Construction
unfolding table construct
after_reading N workspace (Reading.refused why) = Construction.unread why
after_reading N workspace (Reading.accepted f) = ask_room N workspace (table f)

-- The whole: the capacity, the length of the lent workspace, a formula's bytes.
unfoldable pub construction : (N workspace : ℕ) → List ℕ → Construction
unfolding parse table construct
construction N workspace bytes = after_reading N workspace (parse bytes)

-- Question 36: whether K and the workspace's first 8 N bytes are what building with N gives for this table.
unfoldable pub are_nodes : (K N : ℕ) (workspace : List ℕ) → Table → Bool
unfolding nodes
are_nodes K N workspace t =
    leb (node_count t) N && (eqb K (node_count t) && alike eqb (take (nodes_size N) workspace) (laid_out N (node_words t)))
