-- What the outcomes on all formulas of a catalogue say (MEANING 10.5), without leaving anything out one after another: proofs/Meaning.antt
-- proves it of every outcome (`joint_tells`). Assumes nothing.
use Rattle.std.specs.Prelude.{◌≡◌, ◌⊎◌, Bool, true, false, List, [], ◌∷◌, ℕ, ◌≤◌, ◌<◌, length, get_or}
use Rattle.base.specs.Bits.{word}
use Rattle.formula.specs.Formula.{Formula}
use Rattle.formula.specs.Table.{table}
use Rattle.formula.specs.Refusal.{at_byte, fault_code}
use Rattle.formula.specs.declared.Fault.{Fault}
use Rattle.construction.specs.Questions.{question_code}
use Rattle.construction.specs.declared.Question.{Question}
use Rattle.construction.specs.declared.Question.TheVariants.{Nodes, Profiles}
use Rattle.formula.specs.Reading.{Reading, parse}
use Rattle.formula.specs.declared.Refusal.{Refusal}
use Rattle.lasso.specs.Lasso.{Lasso, over_alphabet}
use Rattle.decision.specs.Verdict.{Verdict, decide}
use Rattle.decision.specs.Contract.{Met, Unmet}
use Rattle.catalogue.specs.Records.{Records, records}
use Rattle.catalogue.specs.declared.Record.{Record}
use Rattle.conjunction.specs.Conjunction.{conjoined, Accepted, MeetsEach}
use Rattle.joint.specs.Joint.{Subset, chosen, max_formulas, everything, without, formulas, Joint}

-- ---- the formulas
-- A catalogue of none or of more than eight.
pub record Miscounted (catalogue : List ℕ) : Type 0 where
  pub records_are : List Record
  pub whole : records catalogue ≡ Records.whole records_are
  pub wrong : (length records_are ≡ 0) ⊎ (max_formulas < length records_are)

-- A catalogue of 1 to 8: their bytes.
pub record HasFormulas (catalogue : List ℕ) (bs : List (List ℕ)) : Type 0 where
  pub records_are : List Record
  pub whole : records catalogue ≡ Records.whole records_are
  pub bytes_are : bs ≡ formulas catalogue records_are
  pub some : 1 ≤ length bs
  pub few : length bs ≤ max_formulas

-- The first that reading refuses, at position i.
pub record FirstRefused (bs : List (List ℕ)) (i : ℕ) (why : Refusal) : Type 0 where
  pub there : i < length bs
  pub refuses : parse (get_or bs i []) ≡ Reading.refused why
  pub earlier : (j : ℕ) → j < i → (f : Formula) × (parse (get_or bs j []) ≡ Reading.accepted f)

-- ---- subsets
-- each position of the first is one of the second
pub data Within : Subset → Subset → Type 0 where
  none : Within [] []
  both : {b : Bool} {s t : Subset} → Within s t → Within (b ∷ s) (b ∷ t)
  fewer : {s t : Subset} → Within s t → Within (false ∷ s) (true ∷ t)

-- some lasso over the alphabet meets all formulas,
pub record MetBySome (fs : List Formula) : Type 0 where
  pub course : Lasso
  pub such : over_alphabet course ≡ true
  pub meets_each : MeetsEach course fs

-- and none does, of whatever length
abbrev pub MetByNone : List Formula → Type 0
MetByNone fs = (c : Lasso) → over_alphabet c ≡ true → MeetsEach c fs → ⊥

-- ---- the outcomes
-- MET: what the decision says of the conjunction, and that the lasso meets each formula.
pub record MetAll (catalogue : List ℕ) (stem cycle K n : ℕ) (letters : List ℕ) : Type 0 where
  pub bytes : List (List ℕ)
  pub formulas : List Formula
  pub in_catalogue : HasFormulas catalogue bytes
  pub accepted : Accepted bytes formulas
  pub conjunction_met : Met (conjoined bytes) stem cycle K n letters
  pub meets_each : MeetsEach (record { letters = letters; stem = stem }) formulas

-- NOT: K and P are the conjunction's. The core is a minimal unsatisfiable subset, and of all subsets that no lasso meets the one with the
-- least word.
pub record Clash (catalogue : List ℕ) (K P : ℕ) (core : Subset) : Type 0 where
  pub bytes : List (List ℕ)
  pub formulas : List Formula
  pub in_catalogue : HasFormulas catalogue bytes
  pub accepted : Accepted bytes formulas
  pub conjunction_unmet : Unmet (conjoined bytes) K P
  pub none_meets_all : MetByNone formulas
  pub core_within : Within core (everything (length bytes))
  pub core_unmet : MetByNone (chosen core formulas)
  pub core_needed : (i : ℕ) → get_or core i false ≡ true → MetBySome (chosen (without core i) formulas)
  pub core_first : (u : Subset) → Within u (everything (length bytes)) → MetByNone (chosen u formulas) → word core ≤ word u

-- Why the conjunction of a subset could not be decided: it is too large to read, and then it is that of all; or room is lacking.
pub data Reason (N M : ℕ) (bs : List (List ℕ)) (t : Subset) : Verdict → Type 0 where
  too_large : (fault : Fault) (place : ℕ) → (fault_code fault ≡ 3) ⊎ (fault_code fault ≡ 4) → t ≡ everything (length bs)
      → parse (conjoined bs) ≡ Reading.refused (at_byte fault place) → Reason N M bs t (Verdict.unread (at_byte fault place))
  no_room : (q : Question) → (q ≡ Nodes) ⊎ (q ≡ Profiles) → (f : Formula) → parse (conjoined (chosen t bs)) ≡ Reading.accepted f
      → decide N M (table f) ≡ Verdict.refused q → Reason N M bs t (Verdict.refused q)

-- 35
pub record Untried (N M : ℕ) (catalogue : List ℕ) (t : Subset) (why : Verdict) : Type 0 where
  pub bytes : List (List ℕ)
  pub formulas : List Formula
  pub in_catalogue : HasFormulas catalogue bytes
  pub accepted : Accepted bytes formulas
  pub within : Within t (everything (length bytes))
  pub reason : Reason N M bytes t why

-- 11 to 13 say of the formulas that each is accepted
pub record Refused (catalogue : List ℕ) (q : Question) : Type 0 where
  pub bytes : List (List ℕ)
  pub formulas : List Formula
  pub in_catalogue : HasFormulas catalogue bytes
  pub accepted : Accepted bytes formulas
  pub from_11 : 11 ≤ question_code q
  pub to_13 : question_code q ≤ 13

abbrev pub Tells : (N M : ℕ) (catalogue : List ℕ) → Joint → Type 0
Tells N M catalogue (Joint.damaged place) = records catalogue ≡ Records.damaged place
Tells N M catalogue Joint.miscounted = Miscounted catalogue
Tells N M catalogue (Joint.unread i why) = (bs : List (List ℕ)) × HasFormulas catalogue bs × FirstRefused bs i why
Tells N M catalogue (Joint.refused q) = Refused catalogue q
Tells N M catalogue (Joint.untried t why) = Untried N M catalogue t why
Tells N M catalogue (Joint.satisfiable stem cycle K n letters) = MetAll catalogue stem cycle K n letters
Tells N M catalogue (Joint.unsatisfiable K P core) = Clash catalogue K P core
