-- The verdict is that of MEANING 5.14: each refusal exactly where its question is the first that is answered by no, else MET with the first
-- of the closed runs, or NOT where there is none. `VerdictCases` is the list of questions as a relation, without search and fuel; the
-- verdict's definition meets it (`verdict-answered`). Assumes nothing.
use mathlib.Core.Path.{◌≡◌, refl}
use Rattle.std.specs.Prelude.{Option, None, Some}
use mathlib.Core.List.{List, ◌++◌, map}
use Prim.Native.Nat.{ℕ, ◌+◌, ◌≤◌}
use lib.ListN.{length}
use Rattle.base.specs.Search.{Item}
use Rattle.base.proofs.AskLaws.{Asked, asked, asked_le, passed}
use Rattle.letters.specs.Requirements.{letter_of}
use Rattle.formula.specs.Formula.{Formula}
use Rattle.formula.specs.Table.{Table, table}
use Rattle.formula.specs.Reading.{Reading, parse}
use Rattle.formula.specs.declared.Refusal.{Refusal}
use Rattle.tableau.specs.Saturation.{Subset}
use Rattle.tableau.specs.Transition.{Transition, letter}
use Rattle.tableau.specs.Nodes.{nodes}
use Rattle.tableau.specs.Foremost.{Foremost}
use Rattle.tableau.proofs.NodeLaws.{stem}
use Rattle.construction.specs.Construction.{between, max_nodes, nodes_size, node_count}
use Rattle.construction.proofs.RangeLaws.{between_of, between_in}
use Rattle.construction.proofs.BuildLaws.{InRange}
use Rattle.construction.specs.declared.Question.TheVariants.{Capacity, Workspace, Buffer, Nodes}
use Rattle.safety.specs.Safety.{Verdict, first_least, chosen, conclude, decide, ask_room, ask_greatest, after_reading, verdict}
use Rattle.safety.specs.Closed.{ClosedRun}
use Rattle.safety.specs.Inner.{Lent, concluded}
use Rattle.safety.proofs.FirstCycle.{found-foremost, found_none}
use Rattle.safety.proofs.ShortCourse.{foremost-short}

-- The first of the runs to a closed run, with their letters; stem and cycle have together at most K transitions.
pub record Course (t : Table) (stem cycle : ℕ) (letters : List ℕ) : Type 0 where
  pub there : List Transition
  pub around : List Transition
  pub foremost : Foremost t (ClosedRun t) there around
  pub stem_is : stem ≡ length there
  pub cycle_is : cycle ≡ length around
  pub letters_are : letters ≡ map letter (there ++ around)
  pub short : stem + cycle ≤ node_count t

-- no reachable node has a closed run
abbrev pub NoRun : Table → Type 0
NoRun t = (v : Subset) (ss : List Transition) → ClosedRun t v ss → ⊥

pub data Concluded (t : Table) : Verdict → Type 0 where
  met : {stem cycle : ℕ} {letters : List ℕ} → Course t stem cycle letters
      → Concluded t (Verdict.satisfiable stem cycle (node_count t) letters)
  unmet : NoRun t → Concluded t (Verdict.unsatisfiable (node_count t))

-- the questions 11 to 13 in their order, and then what comes after
abbrev pub From11 : (N workspace buffer : ℕ) → (Verdict → Type 0) → Verdict → Type 0
From11 N workspace buffer After =
    Asked (InRange N) (Verdict.refused Capacity)
    (Asked (nodes_size N ≤ workspace) (Verdict.refused Workspace)
    (Asked (N ≤ buffer) (Verdict.refused Buffer)
    After))

-- past them
pub past_13 : {N workspace buffer : ℕ} {After : Verdict → Type 0} {o : Verdict}
    → From11 N workspace buffer After o → Lent N workspace buffer → After o
past_13 d l = passed (passed (passed d (l.some_nodes, l.few_nodes)) l.workspace_fits) l.buffer_fits

-- 14, and then what comes after
abbrev pub From14 : (N : ℕ) → Table → (Verdict → Type 0) → Verdict → Type 0
From14 N t After = Asked (node_count t ≤ N) (Verdict.refused Nodes) After

-- all of them, and then the answer
abbrev pub DecidedCases : (N workspace buffer : ℕ) → Table → Verdict → Type 0
DecidedCases N workspace buffer t = From11 N workspace buffer (From14 N t (Concluded t))

-- A refusal of reading is passed on; 43 comes before the questions on room.
pub data VerdictCases (N workspace buffer : ℕ) : Reading Formula → Verdict → Type 0 where
  unread : {why : Refusal} → VerdictCases N workspace buffer (Reading.refused why) (Verdict.unread why)
  least : {f : Formula} {place : ℕ} → first_least 0 (table f) ≡ Some place
      → VerdictCases N workspace buffer (Reading.accepted f) (Verdict.least_at place)
  read : {f : Formula} {o : Verdict} → first_least 0 (table f) ≡ None → DecidedCases N workspace buffer (table f) o
      → VerdictCases N workspace buffer (Reading.accepted f) o

-- by whether a cycle was chosen
concludes : (t : Table) (o : Option (Item Transition Subset)) → chosen t ≡ o → Concluded t (conclude (nodes t) o)
unfolding letter_of
concludes t None e = unmet (found_none t e)
concludes t (Some x) e =
    met (record {
      there = stem t x.at;
      around = x.way;
      foremost = found-foremost t e;
      stem_is = refl;
      cycle_is = refl;
      letters_are = refl;
      short = foremost-short t (found-foremost t e);
    })

-- every question after 43
abbrev pub questions : (N workspace buffer : ℕ) → Table → Verdict
questions N workspace buffer t = ask_room N workspace buffer (decide N t)

-- the definitions ask these questions: 14 in front of the answer,
decide-asked : (N : ℕ) (t : Table) {After : Verdict → Type 0} → After (concluded t) → From14 N t After (decide N t)
unfolding decide
decide-asked N t a = asked_le (node_count t) N (concluded t) a

-- 11 to 13 in front of whatever comes after,
room-asked : (N workspace buffer : ℕ) (v : Verdict) {After : Verdict → Type 0} → After v
    → From11 N workspace buffer After (ask_room N workspace buffer v)
room-asked N workspace buffer v a =
    asked _ (between 1 max_nodes N) (between_of 1 max_nodes N) (λ r. between_in 1 max_nodes N r.0 r.1)
    (asked_le (nodes_size N) workspace _
    (asked_le N buffer v
    a))

-- so all of them in front of the answer
pub asked-all : (N workspace buffer : ℕ) (t : Table) {After : Verdict → Type 0} → After (concluded t)
    → From11 N workspace buffer (From14 N t After) (questions N workspace buffer t)
asked-all N workspace buffer t a = room-asked N workspace buffer (decide N t) (decide-asked N t a)

greatest-asked : (N workspace buffer : ℕ) (f : Formula) (o : Option ℕ) → first_least 0 (table f) ≡ o
    → VerdictCases N workspace buffer (Reading.accepted f) (ask_greatest o (questions N workspace buffer (table f)))
greatest-asked N workspace buffer f None e =
    read e (asked-all N workspace buffer (table f) (concludes (table f) (chosen (table f)) refl))
greatest-asked N workspace buffer f (Some place) e = least e

read_answered : (N workspace buffer : ℕ) (r : Reading Formula) → VerdictCases N workspace buffer r (after_reading N workspace buffer r)
unfolding table decide
read_answered N workspace buffer (Reading.refused why) = unread
read_answered N workspace buffer (Reading.accepted f) = greatest-asked N workspace buffer f (first_least 0 (table f)) refl

-- Theorem: the verdict answers the questions.
pub verdict-answered : (N workspace buffer : ℕ) (bytes : List ℕ)
    → VerdictCases N workspace buffer (parse bytes) (verdict N workspace buffer bytes)
unfolding verdict
verdict-answered N workspace buffer bytes = read_answered N workspace buffer (parse bytes)
