-- What building promises: its answer, and what the workspace holds afterwards, in every case, as equations (`Constructed`). Assumes
-- nothing.
use Rattle.std.specs.Prelude.{◌≡◌, cond, List, ◌++◌, ℕ, leb, length, drop, replicate, Result, Ok, Err}
use Rattle.construction.specs.Construction.{Construction, nodes_size, laid_out, construction}
use Rattle.construction.specs.Questions.{question_code}
use Rattle.construction.specs.declared.Refusal as code
use Rattle.construction.specs.declared.Refusal.TheVariants.{Unread, No}

-- the answer for each outcome: how many nodes there are, or why there are none
abbrev pub says : Construction → Result ℕ code.Refusal
says (Construction.unread why) = Err (Unread why)
says (Construction.refused q) = Err (No q)
says (Construction.built words) = Ok (length words)

-- the workspace after each outcome: untouched before 14 is asked; then its first 8 N bytes are zeros, or have the nodes
abbrev pub leaves : (N : ℕ) → Construction → List ℕ → List ℕ
leaves N (Construction.unread why) w = w
leaves N (Construction.refused q) w = cond (leb 14 (question_code q)) (replicate (nodes_size N) 0 ++ drop (nodes_size N) w) w
leaves N (Construction.built words) w = laid_out N words ++ drop (nodes_size N) w

-- The whole promise: a formula's bytes, the capacity, the workspace before and after, the answer.
pub record Constructed (bytes : List ℕ) (N : ℕ) (workspace workspace' : List ℕ) (answer : Result ℕ code.Refusal) : Type 0 where
  pub answered : answer ≡ says (construction N (length workspace) bytes)
  pub worked : workspace' ≡ leaves N (construction N (length workspace) bytes) workspace
