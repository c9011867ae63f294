-- Whether one lasso meets all formulas of a catalogue, and if none does, which of them clash: MEANING 10. What the outcomes mean is in
-- specs/Meaning.antt. Assumes nothing.
use Rattle.std.specs.Prelude.{Bool, true, false, cond, List, [], ◌∷◌, ◌++◌, map, ℕ, zero, suc, ◌+◌, ◌-◌, length, take, drop, set, replicate}
use Rattle.base.specs.Ask.{ask}
use Rattle.formula.specs.Formula.{Formula}
use Rattle.formula.specs.Reading.{Reading, parse}
use Rattle.formula.specs.declared.Refusal.{Refusal}
use Rattle.construction.specs.Construction.{between}
use Rattle.construction.specs.declared.Question.{Question}
use Rattle.decision.specs.Verdict.{Verdict, decide, after_reading, ask_room}
use Rattle.catalogue.specs.Records.{Records, records}
use Rattle.catalogue.specs.declared.Record.{Record}
use Rattle.conjunction.specs.Conjunction.{conjoined}

-- Some of the formulas of a catalogue: for each position whether the formula there is one of them.
abbrev pub Subset : Type 0
Subset = List Bool

-- these of several things, in their order
abbrev pub chosen : {A : Type 0} → Subset → List A → List A
chosen [] xs = []
chosen (b ∷ s) [] = []
chosen (b ∷ s) (x ∷ xs) = let r = chosen s xs in cond b (x ∷ r) r

-- the most formulas that there may be
abbrev pub max_formulas : ℕ
max_formulas = 8

-- all n of them
abbrev pub everything : ℕ → Subset
everything n = replicate n true ++ replicate (max_formulas - n) false

-- a subset with one position left out
abbrev pub without : Subset → (position : ℕ) → Subset
without s i = set s i false

-- What comes of a catalogue: 30 with its place; 34; the refusal of the formula at a position; 11 to 13; 35 with the subset tried, and the
-- verdict on it, which is a refusal; MET and NOT as the decision has them, NOT with the unsatisfiable core.
pub data Joint : Type 0 where
  damaged : (place : ℕ) → Joint
  miscounted : Joint
  unread : (position : ℕ) → Refusal → Joint
  refused : Question → Joint
  untried : Subset → (why : Verdict) → Joint
  satisfiable : (stem cycle K c : ℕ) (letters : List ℕ) → Joint
  unsatisfiable : (K P : ℕ) (core : Subset) → Joint

-- the decision, once the questions 11 to 13 are answered by yes
abbrev pub decided : (N M : ℕ) → List ℕ → Verdict
decided N M bytes = after_reading (decide N M) (parse bytes)

-- What is known of some formulas: that some lasso meets them all, or none; or that a question was answered by no.
pub data Attempt : Type 0 where
  met unmet : Attempt
  unknown : Verdict → Attempt

abbrev pub attempt_of : Verdict → Attempt
attempt_of (Verdict.unread why) = Attempt.unknown (Verdict.unread why)
attempt_of (Verdict.refused q) = Attempt.unknown (Verdict.refused q)
attempt_of (Verdict.satisfiable stem cycle K c letters) = Attempt.met
attempt_of (Verdict.unsatisfiable K P) = Attempt.unmet

-- No formulas at all are met; others by the decision of their conjunction.
abbrev pub attempted : (N M : ℕ) → List (List ℕ) → Attempt
attempted N M [] = Attempt.met
attempted N M (b ∷ bs) = attempt_of (decided N M (conjoined (b ∷ bs)))

-- What leaving out comes to: a subset that was tried, with the refusal; or the core.
pub data Shrunk : Type 0 where
  stuck : Subset → (why : Verdict) → Shrunk
  core : Subset → Shrunk

-- t is s with one position left out: it stays out if what remains cannot be met
abbrev pub gone_on : (rest : Subset → Shrunk) (s t : Subset) → Attempt → Shrunk
gone_on rest s t Attempt.met = rest s
gone_on rest s t Attempt.unmet = rest t
gone_on rest s t (Attempt.unknown why) = Shrunk.stuck t why

-- The positions below a number are tried, from the highest down: MEANING 10.3.
abbrev pub shrink : (try : Subset → Attempt) → ℕ → Subset → Shrunk
shrink try zero s = Shrunk.core s
shrink try (suc i) s = gone_on (shrink try i) s (without s i) (try (without s i))

abbrev pub with_core : (K P : ℕ) → Shrunk → Joint
with_core K P (Shrunk.stuck t why) = Joint.untried t why
with_core K P (Shrunk.core s) = Joint.unsatisfiable K P s

-- What comes of some formulas, by the verdict on the conjunction of all.
abbrev pub settled : (N M : ℕ) → List (List ℕ) → Verdict → Joint
settled N M fs (Verdict.unread why) = Joint.untried (everything (length fs)) (Verdict.unread why)
settled N M fs (Verdict.refused q) = Joint.untried (everything (length fs)) (Verdict.refused q)
settled N M fs (Verdict.satisfiable stem cycle K c letters) = Joint.satisfiable stem cycle K c letters
settled N M fs (Verdict.unsatisfiable K P) =
    with_core K P (shrink (λ s. attempted N M (chosen s fs)) (length fs) (everything (length fs)))

abbrev pub concluded : (N M : ℕ) → List (List ℕ) → Joint
concluded N M fs = settled N M fs (decided N M (conjoined fs))

-- the first formula that reading refuses, by its position; else what comes after
abbrev pub read_on : (position : ℕ) → Reading Formula → (after : Joint) → Joint
read_on i (Reading.refused why) after = Joint.unread i why
read_on i (Reading.accepted f) after = after

abbrev pub ask_read : (position : ℕ) → List (List ℕ) → (after : Joint) → Joint
ask_read i [] after = after
ask_read i (b ∷ bs) after = read_on i (parse b) (ask_read (i + 1) bs after)

-- The questions behind 30 in their order (MEANING 10.2): 34, those of reading, 11 to 13, and 35.
abbrev pub asked : (N M workspace buffer : ℕ) → List (List ℕ) → Joint
asked N M workspace buffer fs =
    ask (between 1 max_formulas (length fs)) Joint.miscounted
    (ask_read 0 fs
    (ask_room Joint.refused N M workspace buffer
    (concluded N M fs)))

-- the bytes of the formulas of a catalogue
abbrev pub bytes_of : List ℕ → Record → List ℕ
bytes_of catalogue r = take r.size (drop r.start catalogue)

abbrev pub formulas : List ℕ → List Record → List (List ℕ)
formulas catalogue rs = map (bytes_of catalogue) rs

-- question 30, and the others
abbrev pub of_records : (N M workspace buffer : ℕ) (catalogue : List ℕ) → Records → Joint
of_records N M workspace buffer catalogue (Records.damaged place) = Joint.damaged place
of_records N M workspace buffer catalogue (Records.whole rs) = asked N M workspace buffer (formulas catalogue rs)

-- The capacities, the lengths of the lent workspace and witness buffer, a catalogue's bytes.
unfoldable pub joint : (N M workspace buffer : ℕ) → List ℕ → Joint
joint N M workspace buffer catalogue = of_records N M workspace buffer catalogue (records catalogue)
