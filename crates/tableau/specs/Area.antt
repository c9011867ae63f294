-- Nodes in a byte area, as the code keeps them: eight bytes for each word, the lowest first, from the first byte on. A reader of the
-- decision's contract need not read it. Assumes nothing.
use Rattle.std.specs.Prelude.{◌≡◌, cond, Option, Some, None, ℕ, zero, suc, ◌+◌, ◌-◌, ◌*◌, ◌%◌, ◌^◌, ◌≤◌, ◌<◌, min, eqb, ltb, length, get_or, take, drop, set, replicate}
use mathlib.Core.List.{List, [], ◌∷◌, ◌++◌, map, Memᴰ}
use Rattle.base.specs.Lists.{flat_map, At}
use Rattle.base.specs.Bits.{word}
use Rattle.base.specs.Bytes.{number_at, bytes_of}
use Rattle.base.specs.Search.{Item}
use Rattle.base.specs.Spread.{Numbered, add, adds}
use Rattle.formula.specs.Table.{Table}
use Rattle.tableau.specs.Saturation.{Subset, same_subset}
use Rattle.tableau.specs.Transition.{Transition, letter, by_word, transitions}
use Rattle.tableau.specs.Nodes.{root, nodes}
use Rattle.tableau.specs.Origins.{parent_at, letter_at}
use Rattle.tableau.specs.Inner.{table_of, Formed, TargetBy}
use Rattle.tableau.specs.declared.Arrival.{Arrival}
use Rattle.tableau.specs.declared.NodeNumber.{NodeNumber}
use Rattle.tableau.specs.declared.Target.{Target}

-- the eight bytes of a number
abbrev pub bytes8 : ℕ → List ℕ
bytes8 x = bytes_of 8 x

-- the number in the eight bytes from an index on
abbrev pub eight : List ℕ → ℕ → ℕ
eight a at = number_at 8 a at

-- an area whose first bytes are these words, and past them what it had
abbrev pub store : (words area : List ℕ) → List ℕ
store ws a = flat_map bytes8 ws ++ drop (8 * length ws) a

-- the words of n nodes from node i on
abbrev pub words_at : List ℕ → (i n : ℕ) → List ℕ
words_at a i zero = []
words_at a i (suc n) = eight a (8 * i) ∷ words_at a (suc i) n

-- what the code answers for a number among the first known: that number, or that there is none
abbrev pub lookup : (known i : ℕ) → Option NodeNumber
lookup known i = cond (ltb i known) (Some (record { 0 = i })) None

-- that many bytes 0
abbrev pub zeros : ℕ → List ℕ
zeros n = replicate n 0

-- an area with zeros from one byte up to another
abbrev pub cleared : (from to : ℕ) → List ℕ → List ℕ
cleared from to a = take from a ++ (zeros (to - from) ++ drop to a)

-- How many nodes there are, as the definitions count them: one more than there is room for where the code has no room for all.
abbrev pub counted : (capacity : ℕ) → Option ℕ → ℕ
counted capacity None = capacity + 1
counted capacity (Some n) = n

-- An area of that many bytes has room for capacity nodes, at most 1,024, and known of them have room.
pub record NodeRoom (known capacity bytes : ℕ) : Type 0 where
  pub fits : known ≤ capacity
  pub few : capacity ≤ 1024
  pub enough : 8 * capacity ≤ bytes

-- The area was a and holds the nodes l as far as there is capacity, everything else unchanged; known is how many nodes there are, or
-- capacity + 1 where there are more.
pub record NodesHeld (capacity known : ℕ) (a area : List ℕ) (l : List Subset) : Type 0 where
  pub known_is : known ≡ min (length l) (capacity + 1)
  pub area_is : area ≡ store (take capacity (map word l)) a

-- the nodes of a table (MEANING 3.7), in order of first visit
abbrev pub reachable : Table → List Subset
reachable t = map (λ (x : Item Transition Subset). x.at) (nodes t)

-- sets of that many subformulas
abbrev pub SubsetsSized : ℕ → List Subset → Type 0
SubsetsSized count l = (u : Subset) → Memᴰ u l → length u ≡ count

-- the slot of a word
abbrev pub slot_of : ℕ → ℕ
slot_of x = x % 2029

-- There are 2,048 slots, and that of each of the area's first words has a mark: it is not 0.
pub record SlotsMarked (known : ℕ) (area slots : List ℕ) : Type 0 where
  pub long : 2048 ≤ length slots
  pub is : (i : ℕ) → i < known → 0 < get_or slots (slot_of (eight area (8 * i))) 0

-- What is asked to add nodes to the first known: room for them and for their notes, and the marks of the known.
pub record Growing (known capacity : ℕ) (area slots origins : List ℕ) : Type 0 where
  pub room : NodeRoom known capacity (length area)
  pub marked : SlotsMarked known area slots
  pub notes : 2 * capacity ≤ length origins

-- a node as the search keeps it: its set, 1 + the number of the node that it was reached from, 0 for the root, and the letter between
abbrev pub ReachedNode : Type 0
ReachedNode = Numbered ℕ Subset

-- the same, where the set is a word
abbrev pub ReachedWord : Type 0
ReachedWord = Numbered ℕ ℕ

-- a node with its set as a word
abbrev pub worded : ReachedNode → ReachedWord
worded x = record { at = word x.at; parent = x.parent; label = x.label }

-- the root, which nothing comes before
abbrev pub root_reached : Table → ReachedNode
root_reached t = record { at = root t; parent = 0; label = 0 }

-- what a transition of node i leads to
abbrev pub reached_by : (i : ℕ) → Transition → ReachedNode
reached_by i s = record { at = s.to; parent = suc i; label = letter s }

-- the nodes that the transition of a choice word leads to from node i, the set v: one or none
abbrev pub leads : Table → (i : ℕ) → Subset → (choice_word : ℕ) → List ReachedNode
leads t i v x = map (reached_by i) (by_word t x v)

-- those that all its transitions lead to
abbrev pub outs : Table → (i : ℕ) → Subset → List ReachedNode
outs t i v = map (reached_by i) (transitions t v)

-- nodes of that many subformulas
abbrev pub ReachedSized : ℕ → List ReachedNode → Type 0
ReachedSized count l = (x : ReachedNode) → Memᴰ x l → length x.at ≡ count

-- The node x is as the arrival says.
pub record Arrives (s : Arrival) (x : ReachedWord) : Type 0 where
  pub set_is : x.at ≡ s.set
  pub from_is : x.parent - 1 ≡ s.from.0
  pub letter_is : x.label ≡ s.letter

-- the notes with that of node j
abbrev pub with_note : List ℕ → (j parent letter : ℕ) → List ℕ
with_note o j p l = set (set o (2 * j) p) (2 * j + 1) l

-- The note of node j is that of x.
pub record NoteOf (o : List ℕ) (j : ℕ) (x : ReachedWord) : Type 0 where
  pub parent_is : parent_at o j ≡ x.parent - 1
  pub letter_is : letter_at o j ≡ x.label

-- The area was a and holds the nodes ws as far as there is capacity, and the notes o are theirs; known is how many nodes there are, or
-- capacity + 1 where there are more.
pub record NodesNoted (capacity known : ℕ) (a area o : List ℕ) (ws : List ReachedWord) : Type 0 where
  pub known_is : known ≡ min (length ws) (capacity + 1)
  pub area_is : area ≡ store (take capacity (map (λ (x : ReachedWord). x.at) ws)) a
  pub notes : (j : ℕ) (x : ReachedWord) → At ws j x → j < capacity → NoteOf o j x

-- The node of an arrival is one of the area's: the nodes were ws, known of them, and it comes to their end unless it is there.
pub record NodeAdded (known capacity : ℕ) (s : Arrival) (area o area' o' : List ℕ) (r : ℕ) : Type 0 where
  pub is : (ws : List ReachedWord) (x : ReachedWord) (a : List ℕ) → Arrives s x → NodesNoted capacity known a area o ws
      → ((y : ReachedWord) → Memᴰ y ws → y.at < 2 ^ 64)
      → NodesNoted capacity r a area' o' (add eqb ws x)

-- The nodes l of the area become those with where a target leads from node i, the set v, where it is that of a choice word x.
pub record Followed (i : ℕ) (target : Option Target) (known capacity : ℕ) (area o area' o' : List ℕ) (r : ℕ) : Type 0 where
  pub is : (rows : List ℕ) (count from x : ℕ) → Formed rows count → TargetBy rows count x from target
      → (l : List ReachedNode) (v : Subset) (a : List ℕ) → NodesNoted capacity known a area o (map worded l) → ReachedSized count l
      → from ≡ word v → length v ≡ count
      → NodesNoted capacity r a area' o' (map worded (adds same_subset l (leads (table_of rows count) i v x)))

-- The nodes l of the area become those with what the transitions of node i, which is n, lead to.
pub record Expanded (rows : List ℕ) (count i known capacity : ℕ) (area o area' o' : List ℕ) (r : ℕ) : Type 0 where
  pub is : (l : List ReachedNode) (n : ReachedNode) (a : List ℕ) → At l i n → NodesNoted capacity known a area o (map worded l)
      → ReachedSized count l
      → NodesNoted capacity r a area' o' (map worded (adds same_subset l (outs (table_of rows count) i n.at)))
