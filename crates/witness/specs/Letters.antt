-- The letters of a witness, and where they are written: those of the stem along the notes of the nodes, those of the cycle along the
-- profiles. A reader of the decision's contract need not read it. Assumes nothing.
use Rattle.std.specs.Prelude.{◌≡◌, cond, ltb, Option, MatchOption, List, ◌++◌, ℕ, suc, ◌+◌, ◌-◌, ◌*◌, ◌<◌, ◌≤◌, length, take, drop}
use Rattle.base.specs.Spread.{Numbered, each_label, labels_to, Linked}
use Rattle.tableau.specs.Origins.{parent_at, letter_at}
use Rattle.profile_search.specs.Stored.{record_of, first_of, StoreFits}
use Rattle.profile_search.specs.declared.placed.Store.{Store}
use Rattle.witness.specs.declared.Note.{Note}
use Rattle.witness.specs.declared.Lengths.{Lengths}

-- the labels along the parents up to item k - 1, where `of` gives the item of each number
abbrev pub labels : {K : Type 0} → (ℕ → Numbered ℕ K) → ℕ → List ℕ
labels of k = labels_to each_label of k

-- the note of node i + 1, as an item of a chain: the root is none
abbrev pub node_item : List ℕ → ℕ → Numbered ℕ ℕ
node_item o i = record { at = suc i; parent = parent_at o (suc i); label = letter_at o (suc i) }

-- the items of a chain with their numbers for vertices: the labels along them are the same
abbrev pub plain : {K : Type 0} → (ℕ → Numbered ℕ K) → ℕ → Numbered ℕ ℕ
plain of i = record { at = suc i; parent = (of i).parent; label = (of i).label }

-- how a chain that ends at node r leads to node j: by its number, and by 0 where it ends, at r or before it
abbrev pub node_link : (r j : ℕ) → ℕ
node_link r j = cond (ltb r j) j 0

-- the note of node i + 1, as an item of a chain that ends at node r
abbrev pub chain_item : (r : ℕ) → List ℕ → ℕ → Numbered ℕ ℕ
chain_item r o i = record { at = suc i; parent = node_link r (parent_at o (suc i)); label = letter_at o (suc i) }

-- A link k leads to an item, and r is what is noted of it.
pub record NoteOf {A : Type 0} (link : A → ℕ) (of : ℕ → Numbered ℕ ℕ) (k : ℕ) (r : Note A) : Type 0 where
  pub some : 0 < k
  pub parent : link r.parent ≡ (of (k - 1)).parent
  pub letter : r.letter ≡ (of (k - 1)).label

-- r is what is noted of the item that a link k leads to, and there is none where k is 0
abbrev pub NotedBy : {A : Type 0} → (A → ℕ) → (ℕ → Numbered ℕ ℕ) → (k : ℕ) → Option (Note A) → Type 0
NotedBy link of k r = MatchOption r (k ≡ 0) (NoteOf link of k)

-- the letters of the stem to node j
abbrev pub stem_letters : List ℕ → ℕ → List ℕ
stem_letters o j = labels (node_item o) j

-- the letters of the cycle of profile p
abbrev pub cycle_letters : Store → List ℕ → ℕ → List ℕ
cycle_letters s area p = labels (record_of s area) (suc p)

-- a list written over the beginning of another
abbrev pub over : List ℕ → List ℕ → List ℕ
over ws l = ws ++ drop (length ws) l

-- the same from an index on
abbrev pub written : ℕ → List ℕ → List ℕ → List ℕ
written from ws l = take from l ++ over ws (drop from l)

-- There are notes of the items up to item k - 1, not more than can be counted, and each leads to a smaller number.
pub record ChainNoted (of : ℕ → Numbered ℕ ℕ) (noted : ℕ → Type 0) (k : ℕ) : Type 0 where
  pub few : k < 18446744073709551616
  pub there : noted k
  pub linked : Linked of k

-- The store in an area of that length has k profiles.
pub record ProfileNoted (s : Store) (len k : ℕ) : Type 0 where
  pub fits : StoreFits s len
  pub room : k ≤ s.capacity

-- There are notes of the nodes up to node j, and each leads to a smaller number.
pub record StemNoted (o : List ℕ) (j : ℕ) : Type 0 where
  pub room : 2 * j + 1 < length o
  pub linked : Linked (node_item o) j

-- There is a profile p, and those up to it go on from profiles of smaller numbers.
pub record CycleKept (s : Store) (area : List ℕ) (p : ℕ) : Type 0 where
  pub fits : StoreFits s (length area)
  pub below : p < s.capacity
  pub linked : Linked (record_of s area) (suc p)

-- There are n letters, which fit from an index on into a buffer of that length.
pub record LettersFit (letters : List ℕ) (n from len : ℕ) : Type 0 where
  pub count_is : n ≡ length letters
  pub room : from + n ≤ len

-- What writing the witness of profile p asks: notes of the profiles up to it and of the nodes up to its first node, and room.
pub record WitnessReady (o : List ℕ) (s : Store) (area : List ℕ) (p len : ℕ) : Type 0 where
  pub kept : CycleKept s area p
  pub noted : StemNoted o (first_of s area p)
  pub room : first_of s area p + suc p ≤ len

-- The letters of the stem to the first node of profile p and then those of its cycle are written over a buffer's beginning; r says how
-- many there are of each.
pub record WitnessWritten (o : List ℕ) (s : Store) (area : List ℕ) (p : ℕ) (before after : List ℕ) (r : Lengths) : Type 0 where
  pub stem_is : r.stem ≡ length (stem_letters o (first_of s area p))
  pub cycle_is : r.cycle ≡ length (cycle_letters s area p)
  pub buffer_is : after ≡ over (stem_letters o (first_of s area p) ++ cycle_letters s area p) before
