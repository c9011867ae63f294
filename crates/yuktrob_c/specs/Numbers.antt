-- The number that stands for each answer: its lowest byte is the number of a refusal (MEANING 1.4, 2.5, 5.2, 5.11, 5.12, 5.14, 9.3, 10.2,
-- 11.3), or 0, and what the answer carries stands above it. include/yuktrob.h says the same in C. Assumes nothing.
use Rattle.std.specs.Prelude.{Bool, cond, List, ℕ, ◌+◌, ◌*◌, ◌≤◌, ◌<◌, length, Result, Ok, Err}
use Rattle.std.proofs.Math.Option.{Option, none, some}
use Rattle.formula.specs.Table.{Entries}
use Rattle.formula.specs.Refusal.{code_of, place_of, binder_place_of, PlacesWithin}
use Rattle.formula.specs.Reading.{Reading}
use Rattle.formula.specs.declared.Refusal.{Refusal}
use Rattle.lasso.specs.Refusal as truth
use Rattle.lasso.specs.declared.Refusal as truth-code
use Rattle.lasso.specs.declared.Refusal.TheVariants as truth-refusal
use Rattle.construction.specs.Construction as building
use Rattle.construction.specs.Construction.{max_nodes, construction}
use Rattle.construction.specs.Questions.{question_code}
use Rattle.construction.specs.declared.Refusal as construction-code
use Rattle.construction.specs.declared.Refusal.TheVariants as construction
use Rattle.decision.specs.Verdict.{max_profiles, verdict, search_verdict}
use Rattle.decision.specs.Verdict as meaning
use Rattle.decision.specs.Contract as decision-code
use Rattle.decision.specs.declared.Verdict.TheVariants as decision
use Rattle.safety.specs.Safety as safe
use Rattle.safety.specs.declared.Verdict as safe-code
use Rattle.safety.specs.declared.Verdict.TheVariants as safety
use Rattle.safety.specs.declared.Refusal as safe-refusal
use Rattle.safety.specs.declared.Refusal.TheVariants as safety-refusal
use Rattle.joint.specs.Joint as joined
use Rattle.joint.specs.Joint.{max_formulas}
use Rattle.joint.specs.Contract.{number_of}
use Rattle.joint.specs.declared.Verdict as joint-code
use Rattle.joint.specs.declared.Verdict.TheVariants as joint
use Rattle.joint.specs.declared.Refusal as joint-refusal-code
use Rattle.joint.specs.declared.Refusal.TheVariants as joint-refusal
use Rattle.substitution.specs.declared.Source.{Source}
use Rattle.substitution.specs.declared.Source.TheVariants.{Old, New, Spliced}
use Rattle.substitution.specs.declared.Refusal as edit-code
use Rattle.substitution.specs.declared.Refusal.TheVariants as substitution
use Rattle.catalogue.specs.Location.{Location}
use Rattle.catalogue.specs.Contract.{code, layer_told}

-- the number of a refusal, or 0, with what is carried
abbrev pub number : (code carried : ℕ) → ℕ
number code carried = code + 256 * carried

-- a place, and above 8 bits for it that of a binder, if there is one
abbrev pub places_carried : ℕ → Option ℕ → ℕ
places_carried place none = place
places_carried place (some binder-at) = place + 256 * binder-at

-- a refusal of reading carries its places
abbrev pub refusal_number : Refusal → ℕ
refusal_number why = number (code_of why) (places_carried (place_of why) (binder_place_of why))

-- reading: a refusal, or how many subformulas an accepted formula has
abbrev pub reading_number : Reading Entries → ℕ
reading_number (Reading.refused why) = refusal_number why
reading_number (Reading.accepted x) = number 0 (length x.operators)

-- why no truth is told: a refusal of reading, or another, which carries nothing (MEANING 7.1)
abbrev pub truth_refusal : truth-code.Refusal → ℕ
truth_refusal (truth-refusal.Unread why) = refusal_number why
truth_refusal truth-refusal.Stem = number (truth.code_of truth-refusal.Stem) 0
truth_refusal truth-refusal.Positions = number (truth.code_of truth-refusal.Positions) 0
truth_refusal truth-refusal.Words = number (truth.code_of truth-refusal.Words) 0
truth_refusal truth-refusal.Alphabet = number (truth.code_of truth-refusal.Alphabet) 0

-- truth: 1 for true, 0 for false; or that
abbrev pub truth_number : Result Bool truth-code.Refusal → ℕ
truth_number (Ok b) = number 0 (cond b 1 0)
truth_number (Err why) = truth_refusal why

-- why there are no nodes, or no verdict: as for truth
abbrev pub no_number : construction-code.Refusal → ℕ
no_number (construction.No q) = number (question_code q) 0
no_number (construction.Unread why) = refusal_number why

-- building: K; or that
abbrev pub construction_number : Result ℕ construction-code.Refusal → ℕ
construction_number (Ok K) = number 0 K
construction_number (Err why) = no_number why

-- 1 for MET or 0 for NOT, then the lengths of stem and cycle, K and the profiles counted with 13 bits each, the first lowest
abbrev pub found : (met stem cycle K c : ℕ) → ℕ
found met stem cycle K c = met + 2 * (stem + 8192 * (cycle + 8192 * (K + 8192 * c)))

-- the decision and the search: that, or a refusal as for building
abbrev pub verdict_number : decision-code.Answer → ℕ
verdict_number (Ok (decision.Satisfiable stem cycle K c)) = number 0 (found 1 stem cycle K c)
verdict_number (Ok (decision.Unsatisfiable K P)) = number 0 (found 0 0 0 K P)
verdict_number (Err why) = no_number why

-- the safety decision: the same without profiles; 43 carries its place, and 11 to 14 nothing
abbrev pub safety_number : Result safe-code.Verdict safe-refusal.Refusal → ℕ
safety_number (Ok (safety.Satisfiable stem cycle K)) = number 0 (found 1 stem cycle K 0)
safety_number (Ok (safety.Unsatisfiable K)) = number 0 (found 0 0 0 K 0)
safety_number (Err (safety-refusal.No q)) = number (question_code q) 0
safety_number (Err (safety-refusal.LeastAt place)) = number 43 place
safety_number (Err (safety-refusal.Unread why)) = refusal_number why

-- a formula by its number: which of the two catalogues; its place and size, or a fault's place, are in words of their own
abbrev pub location_number : Location → ℕ
location_number l = number (code l) (layer_told l)

-- All formulas of a catalogue: MET as for the decision; NOT has the unsatisfiable core, a bit for each position, where MET has the stem's
-- length. A formula's refusal of reading has the position above its 24 bits, 35 carries the subset, and the others nothing: the place of a
-- fault is in a word of its own.
abbrev pub joint_number : Result joint-code.Verdict joint-refusal-code.Refusal → ℕ
joint_number (Ok (joint.Satisfiable stem cycle K c)) = number 0 (found 1 stem cycle K c)
joint_number (Ok (joint.Unsatisfiable K P core)) = number 0 (found 0 core 0 K P)
joint_number (Err (joint-refusal.Damaged place)) = number (number_of (Err (joint-refusal.Damaged place))) 0
joint_number (Err joint-refusal.Miscounted) = number (number_of (Err joint-refusal.Miscounted)) 0
joint_number (Err (joint-refusal.Unread position why)) = refusal_number why + 16777216 * position
joint_number (Err (joint-refusal.No q)) = number (question_code q) 0
joint_number (Err (joint-refusal.Untried s)) = number (number_of (Err (joint-refusal.Untried s))) s

-- which bytes a refusal is about, as a number
abbrev pub source_number : Source → ℕ
source_number Old = 0
source_number New = 1
source_number Spliced = 2

-- A substitution: how many bytes there are now, and above 8 bits for them how many subformulas. A refusal of reading has above its 24 bits
-- which bytes it is about, and 37 carries nothing.
abbrev pub edit_number : (count : ℕ) → Result ℕ edit-code.Refusal → ℕ
edit_number count (Ok long) = number 0 (long + 256 * count)
edit_number count (Err (substitution.Unread source why)) = refusal_number why + 16777216 * source_number source
edit_number count (Err substitution.Missing) = number 37 0

-- the definition's verdict, by the formula's bytes, the capacities and the lent areas
abbrev pub verdict_of : (bytes : List ℕ) (N M : ℕ) (workspace buffer : List ℕ) → meaning.Verdict
verdict_of bytes N M workspace buffer = verdict N M (length workspace) (length buffer) bytes

-- the same of building,
abbrev pub construction_of : (bytes : List ℕ) (N : ℕ) (workspace : List ℕ) → building.Construction
construction_of bytes N workspace = construction N (length workspace) bytes

-- and of a search over K nodes, which goes by what the workspace holds
abbrev pub search_of : (bytes : List ℕ) (K N M : ℕ) (workspace buffer : List ℕ) → meaning.Verdict
search_of bytes K N M workspace buffer = search_verdict K N M workspace (length buffer) bytes

-- The same of the safety decision.
abbrev pub safety_of : (bytes : List ℕ) (N : ℕ) (workspace buffer : List ℕ) → safe.Verdict
safety_of bytes N workspace buffer = safe.verdict N (length workspace) (length buffer) bytes

-- and of the decision of a catalogue
abbrev pub joint_of : (catalogue : List ℕ) (N M : ℕ) (workspace buffer : List ℕ) → joined.Joint
joint_of catalogue N M workspace buffer = joined.joint N M (length workspace) (length buffer) catalogue

-- Why the numbers fit into 64 bits: by question 11 and MEANING 5.6 the sizes of a verdict have room in 13 bits each.
pub record Letters16 (stem cycle K c : ℕ) : Type 0 where
  pub stem_fits : stem < max_nodes
  pub cycle_fits : cycle ≤ max_profiles
  pub nodes_fit : K ≤ max_nodes
  pub profiles_fit : c ≤ max_profiles

-- By MEANING 1.6 the places of a refusal of reading are at most 97:
abbrev pub Early : Refusal → Type 0
Early why = PlacesWithin 97 why

-- of those of truth's refusals,
abbrev pub TruthRefusalFits : truth-code.Refusal → Type 0
TruthRefusalFits (truth-refusal.Unread why) = Early why
TruthRefusalFits truth-refusal.Stem = Unit {0}
TruthRefusalFits truth-refusal.Positions = Unit {0}
TruthRefusalFits truth-refusal.Words = Unit {0}
TruthRefusalFits truth-refusal.Alphabet = Unit {0}

-- and so of its answer,
abbrev pub TruthFits : Result Bool truth-code.Refusal → Type 0
TruthFits (Ok b) = Unit {0}
TruthFits (Err why) = TruthRefusalFits why

-- of those of building and the decision
abbrev pub NoFits : construction-code.Refusal → Type 0
NoFits (construction.No q) = Unit {0}
NoFits (construction.Unread why) = Early why

-- and so of the answer of building, which has few nodes,
abbrev pub ConstructionFits : Result ℕ construction-code.Refusal → Type 0
ConstructionFits (Ok K) = K ≤ max_nodes
ConstructionFits (Err why) = NoFits why

-- of those of the decision and the search, whose sizes are small, too
abbrev pub VerdictFits : decision-code.Answer → Type 0
VerdictFits (Ok (decision.Satisfiable stem cycle K c)) = Letters16 stem cycle K c
VerdictFits (Ok (decision.Unsatisfiable K P)) = Letters16 0 0 K P
VerdictFits (Err why) = NoFits why

-- and of the safety decision, whose place is one of the formula's bytes
abbrev pub SafetyFits : Result safe-code.Verdict safe-refusal.Refusal → Type 0
SafetyFits (Ok (safety.Satisfiable stem cycle K)) = Letters16 stem cycle K 0
SafetyFits (Ok (safety.Unsatisfiable K)) = Letters16 0 0 K 0
SafetyFits (Err (safety-refusal.No q)) = Unit {0}
SafetyFits (Err (safety-refusal.LeastAt place)) = place ≤ 97
SafetyFits (Err (safety-refusal.Unread why)) = Early why

-- and of all formulas of a catalogue, where a subset has eight bits
abbrev pub JointFits : Result joint-code.Verdict joint-refusal-code.Refusal → Type 0
JointFits (Ok (joint.Satisfiable stem cycle K c)) = Letters16 stem cycle K c
JointFits (Ok (joint.Unsatisfiable K P core)) = Letters16 core 0 K P
JointFits (Err (joint-refusal.Damaged place)) = Unit {0}
JointFits (Err joint-refusal.Miscounted) = Unit {0}
JointFits (Err (joint-refusal.Unread position why)) = (position < max_formulas) × (code_of why ≤ 9) × Early why
JointFits (Err (joint-refusal.No q)) = Unit {0}
JointFits (Err (joint-refusal.Untried s)) = Unit {0}

-- and of a substitution, which has at most 97 bytes
abbrev pub EditFits : Result ℕ edit-code.Refusal → Type 0
EditFits (Ok long) = long ≤ 97
EditFits (Err (substitution.Unread source why)) = (code_of why ≤ 9) × Early why
EditFits (Err substitution.Missing) = Unit {0}
