-- The starred cases of MEANING 5.9, those without a star, those of the scale flags, the examples of capacities, and formulas where
-- several runs are as short, as statements that the definitions compute through the reading of the bytes. Assumes nothing.
use Rattle.std.proofs.Common.{◌≡◌, refl, List, [], ◌∷◌, ◌++◌, map, ℕ}
use Rattle.std.proofs.Math.Option.{Option, none, some}
use Rattle.base.specs.Search.{Item}
use Rattle.formula.specs.Formula.{Formula}
use Rattle.formula.specs.Table.{Table, table}
use Rattle.formula.specs.Reading.{Reading, parse}
use Rattle.formula.specs.Refusal.{unguarded}
use Rattle.tableau.specs.Transition.{Transition}
use Rattle.tableau.specs.Nodes.{nodes, stem_to}
use Rattle.tableau.specs.Foremost.{choice_words}
use Rattle.profile.specs.Profiles.{Profile, profiles, rejecting}
use Rattle.construction.specs.declared.Question.TheVariants.{Nodes, Profiles}
use Rattle.decision.specs.Verdict.{Verdict, verdict}
use Rattle.decision.specs.Inner.{found_in}

pub record Case : Type 0 where
  pub bytes : List ℕ
  pub outcome : Verdict

abbrev is : List ℕ → Verdict → Case
is b o = record { bytes = b; outcome = o }

abbrev pub starred : List Case
starred =
    is (0x01 ∷ []) (Verdict.satisfiable 1 1 2 1 (0x4000 ∷ 0x4000 ∷ []))
    ∷ is (0x02 ∷ []) (Verdict.unsatisfiable 1 0)
    ∷ is (0x0A ∷ 0x07 ∷ 0x03 ∷ 0x00 ∷ 0x08 ∷ 0x05 ∷ 0x00 ∷ []) (Verdict.satisfiable 1 1 2 1 (0x4001 ∷ 0x4001 ∷ []))
    ∷ is (0x09 ∷ 0x07 ∷ 0x03 ∷ 0x00 ∷ 0x08 ∷ 0x05 ∷ 0x00 ∷ []) (Verdict.unsatisfiable 2 1)
    ∷ is (0x09 ∷ 0x06 ∷ 0x03 ∷ 0x00 ∷ 0x08 ∷ 0x05 ∷ 0x00 ∷ []) (Verdict.satisfiable 1 1 3 3 (0x4001 ∷ 0x4000 ∷ []))
    ∷ is (0x0A ∷ 0x07 ∷ 0x09 ∷ 0x06 ∷ 0x03 ∷ 0x00 ∷ 0x08 ∷ 0x05 ∷ 0x00 ∷ 0x08 ∷ 0x05 ∷ 0x00 ∷ [])
    (Verdict.satisfiable 1 1 3 4 (0x4001 ∷ 0x4001 ∷ []))
    ∷ is (0x07 ∷ 0x09 ∷ 0x06 ∷ 0x03 ∷ 0x00 ∷ 0x08 ∷ 0x05 ∷ 0x00 ∷ 0x0A ∷ 0x07 ∷ 0x04 ∷ 0x00 ∷ 0x08 ∷ 0x05 ∷ 0x00 ∷ [])
    (Verdict.unsatisfiable 2 1)
    ∷ is (0x0A ∷ 0x07 ∷ 0x03 ∷ 0x00 ∷ 0x07 ∷ 0x08 ∷ 0x04 ∷ 0x00 ∷ 0x08 ∷ 0x08 ∷ 0x05 ∷ 0x00 ∷ [])
    (Verdict.satisfiable 1 2 3 4 (0x4001 ∷ 0x4000 ∷ 0x4001 ∷ []))
    ∷ is (0x0A ∷ 0x07 ∷ 0x09 ∷ 0x08 ∷ 0x08 ∷ 0x05 ∷ 0x00 ∷ 0x08 ∷ 0x05 ∷ 0x00 ∷ []) (Verdict.unsatisfiable 3 6)
    ∷ is (0x09 ∷ 0x05 ∷ 0x00 ∷ []) (Verdict.unread (unguarded 0 2))
    ∷ is (0x08 ∷ 0x09 ∷ 0x05 ∷ 0x00 ∷ []) (Verdict.unread (unguarded 1 3))
    ∷ is (0x0A ∷ 0x09 ∷ 0x06 ∷ 0x03 ∷ 0x00 ∷ 0x05 ∷ 0x01 ∷ []) (Verdict.unread (unguarded 0 6))
    ∷ []

pub starred_cases : map (λ (c : Case). verdict 256 300 59648 556 c.bytes) starred ≡ map (λ (c : Case). c.outcome) starred
unfolding verdict
starred_cases = refl

-- J and L, where the outer fixpoint decides, which is the greatest one in J and the least one in L; then a formula in whose shortest
-- accepting cycle a least fixpoint still waits (MEANING 8): always, two positions on, signal 0.
abbrev pub unstarred : List Case
unstarred =
    is (0x0A ∷ 0x09 ∷ 0x06 ∷ 0x07 ∷ 0x03 ∷ 0x00 ∷ 0x08 ∷ 0x05 ∷ 0x01 ∷ 0x08 ∷ 0x05 ∷ 0x00 ∷ [])
    (Verdict.satisfiable 1 1 3 4 (0x4001 ∷ 0x4001 ∷ []))
    ∷ is (0x09 ∷ 0x0A ∷ 0x06 ∷ 0x07 ∷ 0x03 ∷ 0x00 ∷ 0x08 ∷ 0x05 ∷ 0x01 ∷ 0x08 ∷ 0x05 ∷ 0x00 ∷ [])
    (Verdict.satisfiable 1 1 3 4 (0x4000 ∷ 0x4000 ∷ []))
    ∷ is (0x0A ∷ 0x07 ∷ 0x08 ∷ 0x09 ∷ 0x08 ∷ 0x03 ∷ 0x00 ∷ 0x08 ∷ 0x05 ∷ 0x00 ∷ [])
    (Verdict.satisfiable 2 1 3 2 (0x4000 ∷ 0x4000 ∷ 0x4001 ∷ []))
    ∷ []

pub unstarred_cases : map (λ (c : Case). verdict 256 300 59648 556 c.bytes) unstarred ≡ map (λ (c : Case). c.outcome) unstarred
unfolding verdict
unstarred_cases = refl

-- The two scale flags (MEANING 3.4, 3.5): 15 present, 14 absent, 15 absent; both present, both absent; either absent, where the left one
-- is picked; and 15 present, then 14 absent.
abbrev pub scaled : List Case
scaled =
    is (0x03 ∷ 0x0F ∷ []) (Verdict.satisfiable 1 1 2 1 (0x8000 ∷ 0x4000 ∷ []))
    ∷ is (0x04 ∷ 0x0E ∷ []) (Verdict.satisfiable 1 1 2 1 (0x8000 ∷ 0x4000 ∷ []))
    ∷ is (0x04 ∷ 0x0F ∷ []) (Verdict.satisfiable 1 1 2 1 (0x4000 ∷ 0x4000 ∷ []))
    ∷ is (0x07 ∷ 0x03 ∷ 0x0E ∷ 0x03 ∷ 0x0F ∷ []) (Verdict.unsatisfiable 1 0)
    ∷ is (0x07 ∷ 0x04 ∷ 0x0E ∷ 0x04 ∷ 0x0F ∷ []) (Verdict.unsatisfiable 1 0)
    ∷ is (0x06 ∷ 0x04 ∷ 0x0E ∷ 0x04 ∷ 0x0F ∷ []) (Verdict.satisfiable 1 1 2 1 (0x8000 ∷ 0x4000 ∷ []))
    ∷ is (0x07 ∷ 0x03 ∷ 0x0F ∷ 0x08 ∷ 0x07 ∷ 0x04 ∷ 0x0E ∷ 0x04 ∷ 0x00 ∷ [])
    (Verdict.satisfiable 2 1 3 2 (0x8000 ∷ 0x8000 ∷ 0x4000 ∷ []))
    ∷ []

pub scaled_cases : map (λ (c : Case). verdict 256 300 59648 556 c.bytes) scaled ≡ map (λ (c : Case). c.outcome) scaled
unfolding verdict
scaled_cases = refl

abbrev F : List ℕ
F = 0x0A ∷ 0x07 ∷ 0x09 ∷ 0x06 ∷ 0x03 ∷ 0x00 ∷ 0x08 ∷ 0x05 ∷ 0x00 ∷ 0x08 ∷ 0x05 ∷ 0x00 ∷ []

abbrev H : List ℕ
H = 0x0A ∷ 0x07 ∷ 0x03 ∷ 0x00 ∷ 0x07 ∷ 0x08 ∷ 0x04 ∷ 0x00 ∷ 0x08 ∷ 0x08 ∷ 0x05 ∷ 0x00 ∷ []

abbrev I : List ℕ
I = 0x0A ∷ 0x07 ∷ 0x09 ∷ 0x08 ∷ 0x08 ∷ 0x05 ∷ 0x00 ∷ 0x08 ∷ 0x05 ∷ 0x00 ∷ []

-- A formula's bytes with capacities, in areas for N = 256 and M = 300.
pub record Sized : Type 0 where
  pub nodes : ℕ
  pub profiles : ℕ
  pub bytes : List ℕ
  pub outcome : Verdict

abbrev with_room : ℕ → ℕ → List ℕ → Verdict → Sized
with_room N M b o = record { nodes = N; profiles = M; bytes = b; outcome = o }

-- A with N = 1. F, whose cycle has one transition, and H, whose cycle has two, with as many profiles as it takes and one fewer; I, for
-- which there is none, likewise; F with N = 2 and M = 1.
abbrev pub sized : List Sized
sized =
    with_room 1 300 (0x01 ∷ []) (Verdict.refused Nodes)
    ∷ with_room 256 3 F (Verdict.refused Profiles)
    ∷ with_room 256 4 F (Verdict.satisfiable 1 1 3 4 (0x4001 ∷ 0x4001 ∷ []))
    ∷ with_room 256 3 H (Verdict.refused Profiles)
    ∷ with_room 256 4 H (Verdict.satisfiable 1 2 3 4 (0x4001 ∷ 0x4000 ∷ 0x4001 ∷ []))
    ∷ with_room 256 5 I (Verdict.refused Profiles)
    ∷ with_room 256 6 I (Verdict.unsatisfiable 3 6)
    ∷ with_room 2 1 F (Verdict.refused Nodes)
    ∷ []

pub sized_cases : map (λ (c : Sized). verdict c.nodes c.profiles 59648 556 c.bytes) sized ≡ map (λ (c : Sized). c.outcome) sized
unfolding verdict
sized_cases = refl

-- A formula's bytes, the verdict, and the choice words along its witness.
pub record Told : Type 0 where
  pub bytes : List ℕ
  pub outcome : Verdict
  pub words : List ℕ

abbrev told : List ℕ → Verdict → List ℕ → Told
told b o w = record { bytes = b; outcome = o; words = w }

-- Formulas where two runs are as short (MEANING 5.9). Two letters for the stem, by the order of an or's operands and not of the letters;
-- two ors, of which the later has the higher bit; two nodes; two cycles of one node, with one profile, with different profiles, and twice
-- with two transitions, compared from the first on; and a stem that comes first though its cycle does not.
abbrev pub tied : List Told
tied =
    told (0x06 ∷ 0x03 ∷ 0x00 ∷ 0x03 ∷ 0x01 ∷ [])
    (Verdict.satisfiable 1 1 2 1 (0x4001 ∷ 0x4000 ∷ [])) (0 ∷ 0 ∷ [])
    ∷ told (0x06 ∷ 0x03 ∷ 0x01 ∷ 0x03 ∷ 0x00 ∷ [])
    (Verdict.satisfiable 1 1 2 1 (0x4002 ∷ 0x4000 ∷ [])) (0 ∷ 0 ∷ [])
    ∷ told (0x06 ∷ 0x06 ∷ 0x02 ∷ 0x03 ∷ 0x01 ∷ 0x03 ∷ 0x00 ∷ [])
    (Verdict.satisfiable 1 1 2 1 (0x4001 ∷ 0x4000 ∷ [])) (1 ∷ 0 ∷ [])
    ∷ told (0x06 ∷ 0x0A ∷ 0x07 ∷ 0x03 ∷ 0x01 ∷ 0x08 ∷ 0x05 ∷ 0x00 ∷ 0x0A ∷ 0x07 ∷ 0x03 ∷ 0x00 ∷ 0x08 ∷ 0x05 ∷ 0x00 ∷ [])
    (Verdict.satisfiable 1 1 3 2 (0x4002 ∷ 0x4002 ∷ [])) (0 ∷ 0 ∷ [])
    ∷ told (0x07 ∷ 0x04 ∷ 0x01 ∷ 0x0A ∷ 0x07 ∷ 0x06 ∷ 0x03 ∷ 0x01 ∷ 0x03 ∷ 0x00 ∷ 0x08 ∷ 0x05 ∷ 0x00 ∷ [])
    (Verdict.satisfiable 1 1 2 1 (0x4001 ∷ 0x4002 ∷ [])) (1 ∷ 0 ∷ [])
    ∷ told (0x0A ∷ 0x07 ∷ 0x08 ∷ 0x05 ∷ 0x00 ∷ 0x08 ∷ 0x06 ∷ 0x03 ∷ 0x00 ∷ 0x05 ∷ 0x00 ∷ [])
    (Verdict.satisfiable 1 1 2 2 (0x4000 ∷ 0x4001 ∷ [])) (0 ∷ 0 ∷ [])
    ∷ told (0x0A ∷ 0x08 ∷ 0x07 ∷ 0x06 ∷ 0x03 ∷ 0x01 ∷ 0x03 ∷ 0x00 ∷ 0x08 ∷ 0x05 ∷ 0x00 ∷ [])
    (Verdict.satisfiable 1 2 3 4 (0x4000 ∷ 0x4002 ∷ 0x4000 ∷ [])) (0 ∷ 0 ∷ 0 ∷ [])
    ∷ told (0x0A ∷ 0x08 ∷ 0x07 ∷ 0x08 ∷ 0x05 ∷ 0x00 ∷ 0x09 ∷ 0x06 ∷ 0x08 ∷ 0x05 ∷ 0x00 ∷ 0x03 ∷ 0x00 ∷ [])
    (Verdict.satisfiable 1 2 5 16 (0x4000 ∷ 0x4000 ∷ 0x4001 ∷ [])) (0 ∷ 0 ∷ 1 ∷ [])
    ∷ told (0x06 ∷ 0x08 ∷ 0x0A ∷ 0x07 ∷ 0x06 ∷ 0x02 ∷ 0x03 ∷ 0x00 ∷ 0x08 ∷ 0x05 ∷ 0x00 ∷ 0x08 ∷ 0x0A ∷ 0x07 ∷ 0x03 ∷ 0x01 ∷ 0x08
    ∷ 0x05 ∷ 0x00 ∷ [])
    (Verdict.satisfiable 2 1 5 4 (0x4000 ∷ 0x4001 ∷ 0x4001 ∷ [])) (0 ∷ 2 ∷ 2 ∷ [])
    ∷ []

pub tied_cases : map (λ (c : Told). verdict 256 300 59648 556 c.bytes) tied ≡ map (λ (c : Told). c.outcome) tied
unfolding verdict
tied_cases = refl

-- the choice words of the run that is chosen
abbrev pub words_in : Table → Option (Item Transition Profile) → List ℕ
unfolding nodes
words_in t none = []
words_in t (some x) = choice_words t (stem_to x.at.first (nodes t) ++ x.way)

abbrev pub words_of : Reading Formula → List ℕ
unfolding table nodes profiles
words_of (Reading.refused why) = []
words_of (Reading.accepted f) = words_in (table f) (found_in (table f))

pub tied_words : map (λ (c : Told). words_of (parse c.bytes)) tied ≡ map (λ (c : Told). c.words) tied
unfolding parse table nodes profiles rejecting
tied_words = refl
