-- What the joint decision promises: its answer, and what the workspace and the witness buffer hold afterwards, in every case, as equations
-- (`Jointly`); and the number of each answer (`number_of`). Assumes nothing.
use Rattle.std.specs.Prelude.{◌≡◌, List, ◌++◌, ℕ, ◌+◌, length, drop, Result, Ok, Err}
use Rattle.base.specs.Bits.{word}
use Rattle.formula.specs.Refusal.{code_of}
use Rattle.decision.specs.Contract.{zeroed}
use Rattle.decision.specs.Contract as decision
use Rattle.joint.specs.Joint.{Joint, joint}
use Rattle.construction.specs.Questions.{question_code}
use Rattle.joint.specs.declared.Verdict as code
use Rattle.joint.specs.declared.Verdict.TheVariants.{Satisfiable, Unsatisfiable}
use Rattle.joint.specs.declared.Refusal.{Refusal}
use Rattle.joint.specs.declared.Refusal.TheVariants.{Damaged, Miscounted, Unread, No, Untried}

-- what is handed back: a verdict, or why there is none
abbrev pub Answer : Type 0
Answer = Result code.Verdict Refusal

-- the answer for each outcome: of a subset its word, bit i for position i
abbrev pub says : Joint → Answer
says (Joint.damaged place) = Err (Damaged place)
says Joint.miscounted = Err Miscounted
says (Joint.unread position why) = Err (Unread position why)
says (Joint.refused q) = Err (No q)
says (Joint.untried s why) = Err (Untried (word s))
says (Joint.satisfiable stem cycle K c letters) = Ok (Satisfiable stem cycle K c)
says (Joint.unsatisfiable K P core) = Ok (Unsatisfiable K P (word core))

-- The number of each answer as MEANING 10.2 has it, that of the question which is answered by no; 0 for MET and NOT.
abbrev pub number_of : Answer → ℕ
number_of (Ok v) = 0
number_of (Err (Damaged place)) = 30
number_of (Err Miscounted) = 34
number_of (Err (Unread position why)) = code_of why
number_of (Err (No q)) = question_code q
number_of (Err (Untried s)) = 35

-- where the catalogue is damaged; 0 for any other answer
abbrev pub fault_told : Answer → ℕ
fault_told (Ok v) = 0
fault_told (Err (Damaged place)) = place
fault_told (Err Miscounted) = 0
fault_told (Err (Unread position why)) = 0
fault_told (Err (No q)) = 0
fault_told (Err (Untried s)) = 0

-- the witness buffer after each outcome (MEANING 10.4): for MET the letters first, then what was there
abbrev pub leaves : Joint → List ℕ → List ℕ
leaves (Joint.damaged place) l = l
leaves Joint.miscounted l = l
leaves (Joint.unread position why) l = l
leaves (Joint.refused q) l = l
leaves (Joint.untried s why) l = l
leaves (Joint.satisfiable stem cycle K c letters) l = letters ++ drop (stem + cycle) l
leaves (Joint.unsatisfiable K P core) l = l

-- the workspace after each outcome: after 35 what the decision of the subset tried leaves
abbrev pub cleared : (N M : ℕ) → Joint → List ℕ → List ℕ
cleared N M (Joint.damaged place) w = w
cleared N M Joint.miscounted w = w
cleared N M (Joint.unread position why) w = w
cleared N M (Joint.refused q) w = w
cleared N M (Joint.untried s why) w = decision.cleared N M why w
cleared N M (Joint.satisfiable stem cycle K c letters) w = zeroed N M w
cleared N M (Joint.unsatisfiable K P core) w = zeroed N M w

-- What is left after an outcome: the answer, and the workspace and the buffer, as they were before it and as they are.
pub record Leaves (N M : ℕ) (o : Joint) (workspace workspace' buffer buffer' : List ℕ) (answer : Answer) : Type 0 where
  pub answered : answer ≡ says o
  pub buffered : buffer' ≡ leaves o buffer
  pub worked : workspace' ≡ cleared N M o workspace

-- The whole promise: a catalogue's bytes, the capacities, the workspace and the buffer before and after, the answer.
abbrev pub Jointly : (bytes : List ℕ) (N M : ℕ) (workspace workspace' buffer buffer' : List ℕ) (answer : Answer) → Type 0
Jointly bytes N M workspace workspace' buffer buffer' answer =
    Leaves N M (joint N M (length workspace) (length buffer) bytes) workspace workspace' buffer buffer' answer
