-- What the functions promise that ask the questions, find a cycle and write it. A reader of the contract need not read it. Assumes nothing.
use Rattle.std.specs.Prelude.{◌≡◌, ℕ, ◌+◌, ◌*◌, ◌/◌, ◌^◌, ◌≤◌, ◌<◌, length, get_or, drop}
use mathlib.Core.List.{List, [], map, Memᴰ}
use Rattle.std.specs.Prelude.{Option, None, Some, Result, Ok, Err}
use Rattle.base.specs.Bits.{word}
use Rattle.base.specs.Order.{NoLater}
use Rattle.letters.specs.Requirements.{letter_of}
use Rattle.formula.specs.Table.{Table}
use Rattle.tableau.specs.Saturation.{Subset}
use Rattle.tableau.specs.Transition.{Transition, letter, ors, by_word}
use Rattle.tableau.specs.Nodes.{nodes}
use Rattle.tableau.specs.Run.{Along}
use Rattle.tableau.specs.Foremost.{choice_words}
use Rattle.tableau.specs.Inner.{table_of}
use Rattle.tableau.specs.Area.{eight, words_at, reachable, SlotsMarked, Growing}
use Rattle.tableau.specs.Origins.{Origins}
use Rattle.tableau.specs.Steps.{StepsBefore, StepsNoted}
use Rattle.tableau.specs.Found.{Finding}
use Rattle.relation.specs.Relation.{block_words}
use Rattle.tableau.specs.declared.Target.{Target}
use Rattle.construction.specs.Construction.{max_nodes, nodes_size}
use Rattle.distances.specs.Walks.{Shortest}
use Rattle.witness.specs.Letters.{stem_letters, written}
use Rattle.safety.specs.Safety.{Verdict, chosen, conclude, ask_room}
use Rattle.safety.specs.Contract.{Answer, says, leaves, after_question, cleared}
use Rattle.construction.specs.declared.Question.{Question}
use Rattle.safety.specs.declared.Step.{Step}
use Rattle.safety.specs.declared.Survey.{Survey}

-- what the questions 11 to 13 ask
pub record Lent (N workspace buffer : ℕ) : Type 0 where
  pub some_nodes : 1 ≤ N
  pub few_nodes : N ≤ max_nodes
  pub workspace_fits : nodes_size N ≤ workspace
  pub buffer_fits : N ≤ buffer

-- The three questions: all are answered by yes, or the first that is not gives the refusal, and leaves the workspace alone.
abbrev pub RoomAsked : (N workspace buffer : ℕ) → Result (Unit {0}) Question → Type 0
RoomAsked N workspace buffer (Ok granted) = Lent N workspace buffer
RoomAsked N workspace buffer (Err q) =
    ((after : Verdict) → ask_room N workspace buffer after ≡ Verdict.refused q) × ((w : List ℕ) → after_question N q w ≡ w)

-- There are so many nodes in the area, no two the same, and each is marked.
pub record NodesThere (known : ℕ) (area slots : List ℕ) : Type 0 where
  pub few : known ≤ 1024
  pub room : 8 * known ≤ length area
  pub marked : SlotsMarked known area slots
  pub apart : (i j : ℕ) → i < known → j < known → eight area (8 * i) ≡ eight area (8 * j) → i ≡ j

-- The set stands at this number among the nodes, and that is so many steps away.
pub record FarAt (area steps : List ℕ) (known set far n : ℕ) : Type 0 where
  pub below : n < known
  pub stands : eight area (8 * n) ≡ set
  pub far_is : get_or steps n 1024 ≡ far

-- where a transition leads: to a node that is so far away, or to none
abbrev pub OnwardOf : (area steps : List ℕ) (known : ℕ) → Option Target → (far : ℕ) → Option Step → Type 0
OnwardOf area steps known t far (Some s) =
    (x : Target) × (t ≡ Some x) × (s.letter ≡ letter_of x.required) × FarAt area steps known x.to far s.to.0
OnwardOf area steps known t far None = (x : Target) → t ≡ Some x → (n : ℕ) → FarAt area steps known x.to far n → ⊥

-- ---- of a survey
-- The nodes are there, and a number of steps is noted for each that there may be.
pub record Surveyed (s : Survey) : Type 0 where
  pub there : NodesThere s.known s.area.now s.slots.now
  pub long : length s.steps.now ≡ 1024

-- where a transition leads
abbrev pub Onward : Survey → Option Target → (far : ℕ) → Option Step → Type 0
Onward s t far r = OnwardOf s.area.now s.steps.now s.known t far r

-- The transition of a choice word from the node with that word leads to node n, which is so far away.
pub record Goes (rows : List ℕ) (count x from : ℕ) (area steps : List ℕ) (known far n p : ℕ) : Type 0 where
  pub is : (v : Subset) → length v ≡ count → from ≡ word v
      → (s : Transition) × Memᴰ s (by_word (table_of rows count) x v) × (p ≡ letter s) × FarAt area steps known (word s.to) far n

-- It leads to no node that is so far away.
pub record Strays (rows : List ℕ) (count x from : ℕ) (area steps : List ℕ) (known far : ℕ) : Type 0 where
  pub is : (v : Subset) → length v ≡ count → from ≡ word v → (s : Transition) → Memᴰ s (by_word (table_of rows count) x v)
      → (n : ℕ) → FarAt area steps known (word s.to) far n → ⊥

-- Not all choice words lead elsewhere.
abbrev pub SomeStep : (rows : List ℕ) (count from : ℕ) (area steps : List ℕ) (known far : ℕ) → Type 0
SomeStep rows count from area steps known far =
    ((x : ℕ) → x < 2 ^ ors (table_of rows count) → Strays rows count x from area steps known far) → ⊥

-- The first choice word that leads to a node so far away, and that node with the letter.
pub record FirstStep (rows : List ℕ) (count from : ℕ) (area steps : List ℕ) (known far : ℕ) (r : Step) : Type 0 where
  pub choice_word : ℕ
  pub small : choice_word < 2 ^ ors (table_of rows count)
  pub goes : Goes rows count choice_word from area steps known far r.to.0 r.letter
  pub first : (y : ℕ) → y < choice_word → Strays rows count y from area steps known far

-- the same of the node of a number in a survey: it has a transition to a node so far away, and this is the first
abbrev pub HasStep : Survey → (from far : ℕ) → Type 0
HasStep s from far =
    let t = s.tableau.now.table in
    SomeStep t.rows t.count (eight s.area.now (8 * from)) s.area.now s.steps.now s.known far

abbrev pub IsFirstStep : Survey → (from far : ℕ) → Step → Type 0
IsFirstStep s from far r =
    let t = s.tableau.now.table in
    FirstStep t.rows t.count (eight s.area.now (8 * from)) s.area.now s.steps.now s.known far r

-- the node of a number
abbrev pub node : Table → ℕ → Subset
node t i = get_or (reachable t) i []

-- The area has the nodes of the rows' table, their transitions are noted, and node v is the first with a cycle as short as L; the steps are
-- the distances to it.
pub record CycleThere (rows : List ℕ) (count known : ℕ) (area slots steps : List ℕ) (v L : ℕ) : Type 0 where
  pub there : NodesThere known area slots
  pub known_is : known ≡ length (nodes (table_of rows count))
  pub words_are : words_at area 0 known ≡ map word (reachable (table_of rows count))
  pub relation : List ℕ
  pub noted : StepsNoted rows count known area relation
  pub shortest : Shortest relation known v L steps

-- of a survey
abbrev pub HasCycle : Survey → (v L : ℕ) → Type 0
HasCycle s v L =
    let t = s.tableau.now.table in
    CycleThere t.rows t.count s.known s.area.now s.slots.now s.steps.now v L

-- These L transitions lead from a node back to it, and of all such the choice words of none come before theirs.
pub record FirstClosed (t : Table) (v : Subset) (L : ℕ) (ss : List Transition) : Type 0 where
  pub back : Along t v ss v
  pub long : length ss ≡ L
  pub foremost : (rs : List Transition) → Along t v rs v → length rs ≡ L → NoLater (choice_words t ss) (choice_words t rs)

-- The letters of such transitions are written from an index on.
pub record CycleWritten (t : Table) (v L from : ℕ) (before after : List ℕ) : Type 0 where
  pub cycle : List Transition
  pub closed : FirstClosed t (node t v) L cycle
  pub letters_are : after ≡ written from (map letter cycle) before

-- The letters of the stem to node v are written from index 0 on, and behind them those of the cycle; r is how many the stem has.
pub record CourseWritten (t : Table) (o : List ℕ) (v L : ℕ) (before after : List ℕ) (r : ℕ) : Type 0 where
  pub stem_is : r ≡ length (stem_letters o v)
  pub cycle : List Transition
  pub closed : FirstClosed t (node t v) L cycle
  pub letters_are : after ≡ written r (map letter cycle) (written 0 (stem_letters o v) before)

-- the definition's verdict behind question 14
abbrev pub concluded : Table → Verdict
concluded t = conclude (nodes t) (chosen t)

-- The area has the nodes of the rows' table; where each was found from and the transitions between them are noted; and there is a letter of
-- the buffer for each.
pub record NodesReady (rows : List ℕ) (count known : ℕ) (area slots o rel : List ℕ) (buffer : ℕ) : Type 0 where
  pub there : NodesThere known area slots
  pub known_is : known ≡ length (nodes (table_of rows count))
  pub words_are : words_at area 0 known ≡ map word (reachable (table_of rows count))
  pub notes_are : Origins (table_of rows count) o known
  pub notes_room : 2 * known ≤ length o
  pub long : 1024 * ((known + 63) / 64) ≤ length rel
  pub noted : StepsNoted rows count known area rel
  pub fits : known ≤ buffer

-- The search has gone on from the first 64 nodes, there are so many known by now, and N have room. One block has the transitions of those
-- 64. There is a letter of the buffer for each of the N.
pub record Halfway (rows : List ℕ) (count N known : ℕ) (area slots o rel : List ℕ) (buffer : ℕ) : Type 0 where
  pub many : 64 ≤ known
  pub growing : Growing known N area slots o
  pub was : List ℕ
  pub found : Finding rows count N known 64 was area o
  pub long : length rel ≡ block_words
  pub noted : StepsBefore rows count 64 known area rel
  pub fits : N ≤ buffer

-- The answer to a verdict, and what it leaves in the witness buffer.
pub record Answers (v : Verdict) (before after : List ℕ) (r : Answer) : Type 0 where
  pub answered : r ≡ says v
  pub buffered : after ≡ leaves v before

-- The answer, and of the area only the bytes of N nodes have changed.
pub record CameTo (N : ℕ) (v : Verdict) (area area' before after : List ℕ) (r : Answer) : Type 0 where
  pub answers : Answers v before after r
  pub beyond : drop (nodes_size N) area' ≡ drop (nodes_size N) area

-- The answer to all questions after reading, and what it leaves in both areas.
pub record Settled (N : ℕ) (v : Verdict) (workspace workspace' buffer buffer' : List ℕ) (r : Answer) : Type 0 where
  pub answers : Answers v buffer buffer' r
  pub worked : workspace' ≡ cleared N v workspace
