-- What the decision of formulas without a least fixpoint promises: its answer, and what the workspace and the witness buffer hold
-- afterwards, in every case, as equations (`Decided`); and the number of each verdict (`number_of`). Assumes nothing.
use Rattle.std.specs.Prelude.{◌≡◌, List, ◌++◌, ℕ, ◌+◌, length, drop, replicate, cond, leb, Result, Ok, Err}
use Rattle.formula.specs.Refusal.{code_of}
use Rattle.construction.specs.Construction.{nodes_size}
use Rattle.safety.specs.Safety.{Verdict, verdict}
use Rattle.construction.specs.Questions.{question_code}
use Rattle.construction.specs.declared.Question.{Question}
use Rattle.safety.specs.declared.Verdict as code
use Rattle.safety.specs.declared.Verdict.TheVariants.{Satisfiable, Unsatisfiable}
use Rattle.safety.specs.declared.Refusal.{Refusal}
use Rattle.safety.specs.declared.Refusal.TheVariants.{Unread, LeastAt, No}

-- The number of each verdict as MEANING has it, that of the question which is answered by no: 1 to 9 for a refusal of reading, 43 for a
-- least fixpoint, 11 to 14 for N, the two areas and K; and 0 for MET and NOT, where every question is answered by yes.
abbrev pub number_of : Verdict → ℕ
number_of (Verdict.unread why) = code_of why
number_of (Verdict.least_at place) = 43
number_of (Verdict.refused q) = question_code q
number_of (Verdict.satisfiable stem cycle K letters) = 0
number_of (Verdict.unsatisfiable K) = 0

-- what is handed back: a verdict with its numbers, or why there is none
abbrev pub Answer : Type 0
Answer = Result code.Verdict Refusal

-- the answer for each verdict
abbrev pub says : Verdict → Answer
says (Verdict.unread why) = Err (Unread why)
says (Verdict.least_at place) = Err (LeastAt place)
says (Verdict.refused q) = Err (No q)
says (Verdict.satisfiable stem cycle K letters) = Ok (Satisfiable stem cycle K)
says (Verdict.unsatisfiable K) = Ok (Unsatisfiable K)

-- the witness buffer after each verdict: for MET the letters first, then what was there
abbrev pub leaves : Verdict → List ℕ → List ℕ
leaves (Verdict.unread why) l = l
leaves (Verdict.least_at place) l = l
leaves (Verdict.refused q) l = l
leaves (Verdict.satisfiable stem cycle K letters) l = letters ++ drop (stem + cycle) l
leaves (Verdict.unsatisfiable K) l = l

-- a workspace with the bytes that question 12 asks for 0, and the others as they were
abbrev pub zeroed : (N : ℕ) → List ℕ → List ℕ
zeroed N w = replicate (nodes_size N) 0 ++ drop (nodes_size N) w

-- the workspace after 11 to 14: untouched before 14 is asked
abbrev pub after_question : (N : ℕ) → Question → List ℕ → List ℕ
after_question N q w = cond (leb 14 (question_code q)) (zeroed N w) w

-- the workspace after each verdict
abbrev pub cleared : (N : ℕ) → Verdict → List ℕ → List ℕ
cleared N (Verdict.unread why) w = w
cleared N (Verdict.least_at place) w = w
cleared N (Verdict.refused q) w = after_question N q w
cleared N (Verdict.satisfiable stem cycle K letters) w = zeroed N w
cleared N (Verdict.unsatisfiable K) w = zeroed N w

-- The whole promise: a formula's bytes, the capacity, the workspace and the buffer before and after, the answer.
pub record Decided (bytes : List ℕ) (N : ℕ) (workspace workspace' buffer buffer' : List ℕ) (answer : Answer) : Type 0 where
  pub answered : answer ≡ says (verdict N (length workspace) (length buffer) bytes)
  pub buffered : buffer' ≡ leaves (verdict N (length workspace) (length buffer) bytes) buffer
  pub worked : workspace' ≡ cleared N (verdict N (length workspace) (length buffer) bytes) workspace
