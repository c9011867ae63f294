-- What the functions promise that ask the questions, build the tableau, search the profiles and answer. A reader of the decision's contract
-- need not read it. Assumes nothing.
use Rattle.std.specs.Prelude.{◌≡◌, List, map, ℕ, ◌*◌, ◌≤◌, length, Option, Some, None, Ok, Err}
use Rattle.std.proofs.Math.Option as math
use Rattle.base.specs.Bits.{word}
use Rattle.base.specs.Search.{Item}
use Rattle.formula.specs.Formula.{Formula}
use Rattle.formula.specs.Table.{Table, table}
use Rattle.formula.specs.Reading.{Reading, parse}
use Rattle.tableau.specs.Transition.{Transition}
use Rattle.tableau.specs.Nodes.{operands, nodes}
use Rattle.tableau.specs.Inner.{table_of}
use Rattle.tableau.specs.Area.{words_at, reachable}
use Rattle.tableau.specs.Origins.{Origins}
use Rattle.construction.specs.Construction.{node_count}
use Rattle.construction.specs.Questions.{question_code}
use Rattle.construction.specs.declared.Question.{Question}
use Rattle.construction.specs.declared.Question.TheVariants.{Profiles}
use Rattle.construction.specs.declared.Refusal.TheVariants.{No}
use Rattle.profile.specs.Profiles as literal
use Rattle.profile_tables.specs.Runs.{singles, accepting}
use Rattle.traces.specs.Inner.{RowsLimited}
use Rattle.profile_search.specs.Stored.{StoreFits, BytesBetween}
use Rattle.profile_search.specs.declared.placed.Store.{Store}
use Rattle.cycle_search.specs.Layers.{ComesTo}
use Rattle.cycle_search.specs.declared.Sought.{Sought}
use Rattle.cycle_search.specs.declared.Sought.TheVariants as sought
use Rattle.witness.specs.Letters.{WitnessReady, WitnessWritten}
use Rattle.witness.specs.declared.Lengths.{Lengths}
use Rattle.decision.specs.Verdict.{Verdict, counted, chosen, conclude, searched, ask_capacities}
use Rattle.decision.specs.Lends.{Lends}
use Rattle.decision.specs.Contract.{Answer, says, leaves}
use Rattle.decision.specs.declared.Verdict.TheVariants.{Satisfiable, Unsatisfiable}

-- The rows hold the table of a formula that was read.
pub record Decoded (rows : List ℕ) (count : ℕ) : Type 0 where
  pub bytes : List ℕ
  pub formula : Formula
  pub parsed : parse bytes ≡ Reading.accepted formula
  pub is : table_of rows count ≡ table formula
  pub limited : RowsLimited rows count

-- The store stands behind N nodes, with room for M profiles over n operands of next.
pub record StorePlaced (N M n : ℕ) (s : Store) : Type 0 where
  pub base_is : s.base ≡ 8 * N
  pub capacity_is : s.capacity ≡ M
  pub nexts_are : s.n ≡ n

-- What the search for an accepting cycle came to, over the rows' table; the notes are those of its K nodes.
pub record Profiled (rows : List ℕ) (count : ℕ) (origins area : List ℕ) (s : Store) (K : ℕ) (found : Option Sought) : Type 0 where
  pub decoded : Decoded rows count
  pub notes_are : Origins (table_of rows count) origins K
  pub notes_room : 2 * K ≤ length origins
  pub fits : StoreFits s (length area)
  pub operands_are : s.n ≡ length (operands (table_of rows count))
  pub nodes_are : K ≡ node_count (table_of rows count)
  pub comes_to : ComesTo (accepting (table_of rows count)) s (singles (table_of rows count) (reachable (table_of rows count))) area found

-- What the answer asks: of an accepting profile what writing its witness asks.
abbrev pub Ready : (origins : List ℕ) → Store → (area : List ℕ) → (len : ℕ) → Option Sought → Type 0
Ready origins s area len (Some (sought.Accepting p count)) = WitnessReady origins s area p len
Ready origins s area len (Some (sought.Nowhere count)) = Unit {0}
Ready origins s area len None = Unit {0}

-- The answer with K nodes, and the witness buffer: for an accepting profile its witness is written.
abbrev pub Told : (origins : List ℕ) → Store → (area : List ℕ) → (K : ℕ) → Option Sought → (before after : List ℕ) → Answer → Type 0
Told origins s area K (Some (sought.Accepting p count)) before after r =
    (w : Lengths) × WitnessWritten origins s area p before after w × (r ≡ Ok (Satisfiable w.stem w.cycle K count))
Told origins s area K (Some (sought.Nowhere count)) before after r = (after ≡ before) × (r ≡ Ok (Unsatisfiable K count))
Told origins s area K None before after r = (after ≡ before) × (r ≡ Err (No Profiles))

-- The answer to a verdict, and what it leaves in the witness buffer.
pub record Answers (v : Verdict) (before after : List ℕ) (r : Answer) : Type 0 where
  pub answered : r ≡ says v
  pub buffered : after ≡ leaves v before

-- the accepting profile that the definition finds, if any
abbrev pub found_in : Table → math.Option (Item Transition literal.Profile)
found_in t = chosen t (literal.profiles t (nodes t))

-- how many profiles the definition counts
abbrev pub needed : Table → ℕ
needed t = length (counted (found_in t) (literal.profiles t (nodes t)))

-- the definition's verdict once K and these fit
abbrev pub concluded : Table → Verdict
concluded t = conclude (nodes t) (counted (found_in t) (literal.profiles t (nodes t))) (found_in t)

-- the definition's verdict behind question 14
abbrev pub onward : (M : ℕ) → Table → Verdict
onward M t = searched M t (nodes t)

-- Of the questions 11 to 13 this is the first that refuses.
pub record RefusedBy (N M workspace buffer : ℕ) (q : Question) : Type 0 where
  pub early : question_code q ≤ 13
  pub refuses : (v : Verdict) → ask_capacities N M workspace buffer v ≡ Verdict.refused q

-- The area has the K nodes of the rows' table at its beginning, their notes are right, and there is as much room as the capacities ask.
pub record NodesReady (rows : List ℕ) (count N M K : ℕ) (origins area : List ℕ) (buffer : ℕ) : Type 0 where
  pub decoded : Decoded rows count
  pub lends : Lends N M (length area) buffer
  pub nodes_are : K ≡ node_count (table_of rows count)
  pub fits : K ≤ N
  pub words_are : words_at area 0 K ≡ map word (reachable (table_of rows count))
  pub notes_are : Origins (table_of rows count) origins K
  pub notes_room : 2 * N ≤ length origins

-- The answer to a verdict, and of the area only the bytes from one up to another have changed, if any.
pub record CameTo (v : Verdict) (from to : ℕ) (area area' before after : List ℕ) (r : Answer) : Type 0 where
  pub answers : Answers v before after r
  pub changed : BytesBetween from to area area'
