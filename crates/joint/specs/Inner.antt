-- What the inner functions promise each other. A reader of the promise need not read it. Assumes nothing.
use Rattle.std.specs.Prelude.{◌≡◌, Bool, true, false, List, [], ◌∷◌, ◌++◌, map, ℕ, ◌+◌, ◌≤◌, length, take, drop}
use Rattle.std.specs.Prelude.{Option, Some, None, Result, Ok, Err}
use Rattle.std.specs.Borrow.{Bor}
use Rattle.base.specs.Bits.{word}
use Rattle.formula.specs.Formula.{Formula}
use Rattle.formula.specs.Reading.{Opcode, byte_of, Reading, parse}
use Rattle.catalogue.specs.Records.{Records}
use Rattle.decision.specs.Verdict.{ask_room}
use Rattle.decision.specs.Contract.{zeroed}
use Rattle.conjunction.specs.Conjunction.{conjoined, Accepted}
use Rattle.joint.specs.Joint.{max_formulas, bytes_of, Attempt, Shrunk, Joint, ask_read, concluded}
use Rattle.joint.specs.declared.Formulas.{Formulas}
use Rattle.joint.specs.declared.Refusal.{Refusal}
use Rattle.joint.specs.declared.Refusal.TheVariants.{Unread, Untried}
use Rattle.decision.specs.Contract as decision
use Rattle.decision.specs.declared.Verdict.TheVariants.{Satisfiable, Unsatisfiable}

-- ---- the formulas, as parts of the catalogue
-- the bytes of several parts
abbrev pub held : List (Bor (List ℕ)) → List (List ℕ)
held parts = map (λ part. part.now) parts

-- There are so many formulas as the count says, and if there is room for all, the first parts are theirs.
pub record Holds (f : Formulas) (fs : List (List ℕ)) : Type 0 where
  pub counted : f.count ≡ length fs
  pub are : f.count ≤ max_formulas → held (take f.count f.parts) ≡ fs

-- of the records that a catalogue comes to, or of its damage
abbrev pub Collects : (catalogue : List ℕ) → Records → Result Formulas ℕ → Type 0
Collects catalogue (Records.damaged place) (Ok f) = ⊥
Collects catalogue (Records.damaged place) (Err told) = told ≡ place
Collects catalogue (Records.whole rs) (Ok f) = Holds f (map (bytes_of catalogue) rs)
Collects catalogue (Records.whole rs) (Err told) = ⊥

-- ---- reading each
abbrev pub check_on : (position : ℕ) → Reading Formula → (after : Result (Unit {0}) Refusal) → Result (Unit {0}) Refusal
check_on i (Reading.refused why) after = Err (Unread i why)
check_on i (Reading.accepted f) after = after

-- the first that is refused, positions counted from a number on
abbrev pub checked : (position : ℕ) → List (List ℕ) → Result (Unit {0}) Refusal
checked i [] = Ok tt
checked i (b ∷ bs) = check_on i (parse b) (checked (i + 1) bs)

-- all are formulas, and no more than there may be
pub record Readable (bs : List (List ℕ)) : Type 0 where
  pub few : length bs ≤ max_formulas
  pub formulas : List Formula
  pub accepted : Accepted bs formulas

-- the questions behind 34
abbrev pub asked_on : (N M workspace buffer : ℕ) → List (List ℕ) → Joint
asked_on N M workspace buffer fs = ask_read 0 fs (ask_room Joint.refused N M workspace buffer (concluded N M fs))

-- ---- the conjunction, put together from its end
-- a formula's bytes before what there is: an and comes before both, if there is anything
abbrev pub joined : List ℕ → List ℕ → List ℕ
joined b [] = b
joined b (c ∷ cs) = byte_of (Opcode.pair false) ∷ (b ++ (c ∷ cs))

-- From the place `at` on there was something, and from r on there is something else, of 97 more bytes at most.
pub record Grown (at : ℕ) (now : List ℕ) (out out' : List ℕ) (r : ℕ) : Type 0 where
  pub is : drop r out' ≡ now
  pub before : r ≤ at
  pub near : at ≤ r + 97
  pub long : length out' ≡ length out

-- a buffer from r on has the conjunction of some formulas
pub record Conjoins (fs : List (List ℕ)) (out out' : List ℕ) (r : ℕ) : Type 0 where
  pub is : drop r out' ≡ conjoined fs
  pub within : r ≤ length out'
  pub long : length out' ≡ length out

-- ---- leaving out
-- the workspace has zeros already where a decision leaves them
abbrev pub Clear : (N M : ℕ) → List ℕ → Type 0
Clear N M w = zeroed N M w ≡ w

-- what is told of it: whether some lasso meets the formulas
abbrev pub attempt_told : Attempt → Option Bool
attempt_told Attempt.met = Some true
attempt_told Attempt.unmet = Some false
attempt_told (Attempt.unknown why) = None

-- the same of what the code has
abbrev pub attempt_said : decision.Answer → Option Bool
attempt_said (Ok (Satisfiable stem cycle K c)) = Some true
attempt_said (Ok (Unsatisfiable K P)) = Some false
attempt_said (Err why) = None

-- a core, or what was tried where leaving out is stuck
abbrev pub shrunk_told : Shrunk → Result ℕ Refusal
shrunk_told (Shrunk.stuck t why) = Err (Untried (word t))
shrunk_told (Shrunk.core s) = Ok (word s)
