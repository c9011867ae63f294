-- What the decision and the search promise: the answer, and what the workspace and the witness buffer hold afterwards, in every case, as
-- equations (`Decided`, `Searched`); and what a verdict says of the formula (`Met`, `Unmet`), which proofs/Answer.antt proves of every
-- verdict. Assumes nothing.
use Rattle.std.specs.Prelude.{◌≡◌, true, cond, List, [], ◌++◌, map, ℕ, ◌+◌, ◌≤◌, ◌<◌, eqb, leb, length, take, drop, replicate}
use Rattle.std.specs.Prelude.{Result, Ok, Err}
use Rattle.base.specs.Search.{within}
use Rattle.formula.specs.Formula.{Formula}
use Rattle.formula.specs.Table.{Table, table}
use Rattle.formula.specs.Reading.{Reading, parse}
use Rattle.lasso.specs.Lasso.{Lasso, over_alphabet, meets}
use Rattle.tableau.specs.Transition.{Transition, letter}
use Rattle.tableau.specs.Nodes.{nodes}
use Rattle.tableau.specs.Foremost.{Foremost}
use Rattle.profile.specs.Profiles.{profiles}
use Rattle.profile.specs.Cycle.{AcceptingCycle}
use Rattle.construction.specs.Construction.{nodes_size, node_count}
use Rattle.decision.specs.Verdict.{Verdict, profiles_size, workspace_size, verdict, search_verdict}
use Rattle.construction.specs.Questions.{question_code}
use Rattle.construction.specs.declared.Refusal.{Refusal}
use Rattle.construction.specs.declared.Refusal.TheVariants.{Unread, No}
use Rattle.decision.specs.declared.Verdict as code
use Rattle.decision.specs.declared.Verdict.TheVariants.{Satisfiable, Unsatisfiable}

-- what is answered: a verdict, or why there is none
abbrev pub Answer : Type 0
Answer = Result code.Verdict Refusal

-- the answer for each verdict of the definition, with the numbers of MEANING 5.3
abbrev pub says : Verdict → Answer
says (Verdict.unread why) = Err (Unread why)
says (Verdict.refused q) = Err (No q)
says (Verdict.satisfiable stem cycle K c letters) = Ok (Satisfiable stem cycle K c)
says (Verdict.unsatisfiable K P) = Ok (Unsatisfiable K P)

-- P
abbrev pub profile_count : Table → ℕ
profile_count t = length (profiles t (nodes t))

-- c of l: MEANING 4.3
abbrev pub profile_count_within : Table → (l : ℕ) → ℕ
profile_count_within t l = length (within l (profiles t (nodes t)))

-- MEANING 5.4 and 5.6: a run to a node and an accepting cycle of this node, the first of all such, with their letters; the stem has fewer
-- letters than K, the cycle at most c of its length.
pub record Witness (t : Table) (stem cycle : ℕ) (letters : List ℕ) : Type 0 where
  pub there : List Transition
  pub around : List Transition
  pub foremost : Foremost t (AcceptingCycle t) there around
  pub stem_is : stem ≡ length there
  pub cycle_is : cycle ≡ length around
  pub letters_are : letters ≡ map letter (there ++ around)
  pub stem_short : stem < node_count t
  pub cycle_short : cycle ≤ profile_count_within t cycle

-- what MET says of the formula that was read: the lasso is over the alphabet, meets it and is a witness (MEANING 5.7)
pub record Met (bytes : List ℕ) (stem cycle K c : ℕ) (letters : List ℕ) : Type 0 where
  pub formula : Formula
  pub reads : parse bytes ≡ Reading.accepted formula
  pub such : over_alphabet (record { letters = letters; stem = stem }) ≡ true
  pub holds : meets (record { letters = letters; stem = stem }) formula ≡ true
  pub witness : Witness (table formula) stem cycle letters
  pub nodes_counted : K ≡ node_count (table formula)
  pub profiles_counted : c ≡ profile_count_within (table formula) cycle

-- what NOT says: no such lasso meets it, however long
pub record Unmet (bytes : List ℕ) (K P : ℕ) : Type 0 where
  pub formula : Formula
  pub reads : parse bytes ≡ Reading.accepted formula
  pub none_holds : (c : Lasso) → over_alphabet c ≡ true → meets c formula ≡ true → ⊥
  pub nodes_counted : K ≡ node_count (table formula)
  pub profiles_counted : P ≡ profile_count (table formula)

-- the letters of the witness; without one there are none
abbrev pub letters_of : Verdict → List ℕ
letters_of (Verdict.unread why) = []
letters_of (Verdict.refused q) = []
letters_of (Verdict.satisfiable stem cycle K c letters) = letters
letters_of (Verdict.unsatisfiable K P) = []

-- the witness buffer after each verdict (MEANING 5.5): for MET the letters first, then what was there
abbrev pub leaves : Verdict → List ℕ → List ℕ
leaves (Verdict.unread why) l = l
leaves (Verdict.refused q) l = l
leaves (Verdict.satisfiable stem cycle K c letters) l = letters ++ drop (stem + cycle) l
leaves (Verdict.unsatisfiable K P) l = l

-- a workspace with the bytes that question 12 asks for 0, and the others as they were
abbrev pub zeroed : (N M : ℕ) → List ℕ → List ℕ
zeroed N M w = replicate (workspace_size N M) 0 ++ drop (workspace_size N M) w

-- the workspace after each verdict: MEANING 5.5
abbrev pub cleared : (N M : ℕ) → Verdict → List ℕ → List ℕ
cleared N M (Verdict.unread why) w = w
cleared N M (Verdict.refused q) w = cond (leb 14 (question_code q)) (zeroed N M w) w
cleared N M (Verdict.satisfiable stem cycle K c letters) w = zeroed N M w
cleared N M (Verdict.unsatisfiable K P) w = zeroed N M w

-- The whole promise of the decision: a formula's bytes, the capacities, the workspace and the buffer before and after, the answer.
pub record Decided (bytes : List ℕ) (N M : ℕ) (workspace workspace' buffer buffer' : List ℕ) (answer : Answer) : Type 0 where
  pub answered : answer ≡ says (verdict N M (length workspace) (length buffer) bytes)
  pub buffered : buffer' ≡ leaves (verdict N M (length workspace) (length buffer) bytes) buffer
  pub worked : workspace' ≡ cleared N M (verdict N M (length workspace) (length buffer) bytes) workspace

-- a workspace with the bytes behind those of N nodes 0, as many as M profiles take, and the others as they were
abbrev pub emptied : (N M : ℕ) → List ℕ → List ℕ
emptied N M w = take (nodes_size N) w ++ (replicate (profiles_size M) 0 ++ drop (workspace_size N M) w)

-- the workspace after each outcome of a search: MEANING 5.12
abbrev pub kept : (N M : ℕ) → Verdict → List ℕ → List ℕ
kept N M (Verdict.unread why) w = w
kept N M (Verdict.refused q) w = cond (eqb (question_code q) 15) (emptied N M w) w
kept N M (Verdict.satisfiable stem cycle K c letters) w = emptied N M w
kept N M (Verdict.unsatisfiable K P) w = emptied N M w

-- The whole promise of a search: the number of nodes that is handed to it too.
pub record Searched (bytes : List ℕ) (K N M : ℕ) (workspace workspace' buffer buffer' : List ℕ) (answer : Answer) : Type 0 where
  pub answered : answer ≡ says (search_verdict K N M workspace (length buffer) bytes)
  pub buffered : buffer' ≡ leaves (search_verdict K N M workspace (length buffer) bytes) buffer
  pub worked : workspace' ≡ kept N M (search_verdict K N M workspace (length buffer) bytes) workspace
