-- The examples of MEANING 5.14, and those cases of decision/proofs/Cases.antt that have no least fixpoint or are refused in reading, as
-- statements that the definitions compute through the reading of the bytes: each verdict with its numbers and its letters. Left out is the
-- formula with K = 513: the definition searches from each node, and the like formula with three signals, whose K is 9, already takes
-- several times as long to compute so as all that is here. Assumes nothing.
use mathlib.Core.Path.{◌≡◌, refl}
use mathlib.Core.List.{List, [], ◌∷◌, map}
use Prim.Native.Nat.{ℕ}
use Rattle.formula.specs.Refusal.{unguarded}
use Rattle.construction.specs.declared.Question.TheVariants.{Capacity, Workspace, Buffer, Nodes}
use Rattle.safety.specs.Safety.{Verdict, verdict}

pub record Example : Type 0 where
  pub bytes : List ℕ
  pub outcome : Verdict

abbrev is : List ℕ → Verdict → Example
is b o = record { bytes = b; outcome = o }

-- The table, with N = 256 and what 12 and 13 ask.
abbrev pub examples : List Example
examples =
    is (0x01 ∷ []) (Verdict.satisfiable 1 1 2 (0x4000 ∷ 0x4000 ∷ []))
    ∷ is (0x02 ∷ []) (Verdict.unsatisfiable 1)
    ∷ is (0x08 ∷ 0x02 ∷ []) (Verdict.unsatisfiable 2)
    ∷ is (0x08 ∷ 0x04 ∷ 0x00 ∷ []) (Verdict.satisfiable 2 1 3 (0x4000 ∷ 0x4000 ∷ 0x4000 ∷ []))
    ∷ is (0x03 ∷ 0x09 ∷ []) (Verdict.satisfiable 1 1 2 (0x4200 ∷ 0x4000 ∷ []))
    ∷ is (0x06 ∷ 0x03 ∷ 0x01 ∷ 0x03 ∷ 0x00 ∷ []) (Verdict.satisfiable 1 1 2 (0x4002 ∷ 0x4000 ∷ []))
    ∷ is (0x0A ∷ 0x08 ∷ 0x08 ∷ 0x05 ∷ 0x00 ∷ []) (Verdict.satisfiable 1 2 3 (0x4000 ∷ 0x4000 ∷ 0x4000 ∷ []))
    ∷ is (0x06 ∷ 0x0A ∷ 0x07 ∷ 0x03 ∷ 0x00 ∷ 0x08 ∷ 0x08 ∷ 0x05 ∷ 0x00 ∷ 0x08 ∷ 0x08 ∷ 0x08 ∷ 0x01 ∷ [])
    (Verdict.satisfiable 4 1 7 (0x4000 ∷ 0x4000 ∷ 0x4000 ∷ 0x4000 ∷ 0x4000 ∷ []))
    ∷ is (0x09 ∷ 0x03 ∷ 0x00 ∷ []) (Verdict.least_at 0)
    ∷ is (0x0A ∷ 0x08 ∷ 0x09 ∷ 0x05 ∷ 0x01 ∷ []) (Verdict.least_at 2)
    ∷ is (0x07 ∷ 0x09 ∷ 0x04 ∷ 0x02 ∷ 0x09 ∷ 0x04 ∷ 0x02 ∷ []) (Verdict.least_at 1)
    ∷ is (0x07 ∷ 0x03 ∷ 0x09 ∷ 0x09 ∷ 0x01 ∷ []) (Verdict.least_at 3)
    ∷ is (0x09 ∷ 0x05 ∷ 0x00 ∷ []) (Verdict.unread (unguarded 0 2))
    ∷ []

pub examples_decided : map (λ (e : Example). verdict 256 2048 256 e.bytes) examples ≡ map (λ (e : Example). e.outcome) examples
unfolding verdict
examples_decided = refl

-- the case H of MEANING 5.9
abbrev H : List ℕ
H = 0x0A ∷ 0x07 ∷ 0x03 ∷ 0x00 ∷ 0x07 ∷ 0x08 ∷ 0x04 ∷ 0x00 ∷ 0x08 ∷ 0x08 ∷ 0x05 ∷ 0x00 ∷ []

-- Bytes with N and the sizes of the two areas.
pub record Sized : Type 0 where
  pub capacity : ℕ
  pub workspace : ℕ
  pub buffer : ℕ
  pub bytes : List ℕ
  pub outcome : Verdict

abbrev with_room : (N workspace buffer : ℕ) → List ℕ → Verdict → Sized
with_room N w b l o = record { capacity = N; workspace = w; buffer = b; bytes = l; outcome = o }

-- The refusals 43 and 8 of the table with N = 0 and nothing lent; 01 with N = 2, and where 14, 11 twice, 12 and 13 refuse it; 14 in areas
-- that are larger than asked; and H with N = K and with one less.
abbrev pub sized : List Sized
sized =
    with_room 0 0 0 (0x09 ∷ 0x03 ∷ 0x00 ∷ []) (Verdict.least_at 0)
    ∷ with_room 0 0 0 (0x0A ∷ 0x08 ∷ 0x09 ∷ 0x05 ∷ 0x01 ∷ []) (Verdict.least_at 2)
    ∷ with_room 0 0 0 (0x07 ∷ 0x09 ∷ 0x04 ∷ 0x02 ∷ 0x09 ∷ 0x04 ∷ 0x02 ∷ []) (Verdict.least_at 1)
    ∷ with_room 0 0 0 (0x07 ∷ 0x03 ∷ 0x09 ∷ 0x09 ∷ 0x01 ∷ []) (Verdict.least_at 3)
    ∷ with_room 0 0 0 (0x09 ∷ 0x05 ∷ 0x00 ∷ []) (Verdict.unread (unguarded 0 2))
    ∷ with_room 2 16 2 (0x01 ∷ []) (Verdict.satisfiable 1 1 2 (0x4000 ∷ 0x4000 ∷ []))
    ∷ with_room 1 8 1 (0x01 ∷ []) (Verdict.refused Nodes)
    ∷ with_room 0 16 2 (0x01 ∷ []) (Verdict.refused Capacity)
    ∷ with_room 1025 8200 1025 (0x01 ∷ []) (Verdict.refused Capacity)
    ∷ with_room 2 15 2 (0x01 ∷ []) (Verdict.refused Workspace)
    ∷ with_room 2 16 1 (0x01 ∷ []) (Verdict.refused Buffer)
    ∷ with_room 1 59648 556 (0x01 ∷ []) (Verdict.refused Nodes)
    ∷ with_room 3 24 3 H (Verdict.satisfiable 1 2 3 (0x4001 ∷ 0x4000 ∷ 0x4001 ∷ []))
    ∷ with_room 2 16 2 H (Verdict.refused Nodes)
    ∷ []

pub sized-decided : map (λ (e : Sized). verdict e.capacity e.workspace e.buffer e.bytes) sized
    ≡ map (λ (e : Sized). e.outcome) sized
unfolding verdict
sized-decided = refl

-- The starred cases C and H, the two other refusals of reading there, the scale flags, and the formulas where two runs are as short; those
-- that stand above are not repeated. With N = 256, in the areas of the decision with M = 300.
abbrev pub cases : List Example
cases =
    is (0x0A ∷ 0x07 ∷ 0x03 ∷ 0x00 ∷ 0x08 ∷ 0x05 ∷ 0x00 ∷ []) (Verdict.satisfiable 1 1 2 (0x4001 ∷ 0x4001 ∷ []))
    ∷ is H (Verdict.satisfiable 1 2 3 (0x4001 ∷ 0x4000 ∷ 0x4001 ∷ []))
    ∷ is (0x08 ∷ 0x09 ∷ 0x05 ∷ 0x00 ∷ []) (Verdict.unread (unguarded 1 3))
    ∷ is (0x0A ∷ 0x09 ∷ 0x06 ∷ 0x03 ∷ 0x00 ∷ 0x05 ∷ 0x01 ∷ []) (Verdict.unread (unguarded 0 6))
    ∷ is (0x03 ∷ 0x0F ∷ []) (Verdict.satisfiable 1 1 2 (0x8000 ∷ 0x4000 ∷ []))
    ∷ is (0x04 ∷ 0x0E ∷ []) (Verdict.satisfiable 1 1 2 (0x8000 ∷ 0x4000 ∷ []))
    ∷ is (0x04 ∷ 0x0F ∷ []) (Verdict.satisfiable 1 1 2 (0x4000 ∷ 0x4000 ∷ []))
    ∷ is (0x07 ∷ 0x03 ∷ 0x0E ∷ 0x03 ∷ 0x0F ∷ []) (Verdict.unsatisfiable 1)
    ∷ is (0x07 ∷ 0x04 ∷ 0x0E ∷ 0x04 ∷ 0x0F ∷ []) (Verdict.unsatisfiable 1)
    ∷ is (0x06 ∷ 0x04 ∷ 0x0E ∷ 0x04 ∷ 0x0F ∷ []) (Verdict.satisfiable 1 1 2 (0x8000 ∷ 0x4000 ∷ []))
    ∷ is (0x07 ∷ 0x03 ∷ 0x0F ∷ 0x08 ∷ 0x07 ∷ 0x04 ∷ 0x0E ∷ 0x04 ∷ 0x00 ∷ [])
    (Verdict.satisfiable 2 1 3 (0x8000 ∷ 0x8000 ∷ 0x4000 ∷ []))
    ∷ is (0x06 ∷ 0x03 ∷ 0x00 ∷ 0x03 ∷ 0x01 ∷ []) (Verdict.satisfiable 1 1 2 (0x4001 ∷ 0x4000 ∷ []))
    ∷ is (0x06 ∷ 0x06 ∷ 0x02 ∷ 0x03 ∷ 0x01 ∷ 0x03 ∷ 0x00 ∷ []) (Verdict.satisfiable 1 1 2 (0x4001 ∷ 0x4000 ∷ []))
    ∷ is (0x06 ∷ 0x0A ∷ 0x07 ∷ 0x03 ∷ 0x01 ∷ 0x08 ∷ 0x05 ∷ 0x00 ∷ 0x0A ∷ 0x07 ∷ 0x03 ∷ 0x00 ∷ 0x08 ∷ 0x05 ∷ 0x00 ∷ [])
    (Verdict.satisfiable 1 1 3 (0x4002 ∷ 0x4002 ∷ []))
    ∷ is (0x07 ∷ 0x04 ∷ 0x01 ∷ 0x0A ∷ 0x07 ∷ 0x06 ∷ 0x03 ∷ 0x01 ∷ 0x03 ∷ 0x00 ∷ 0x08 ∷ 0x05 ∷ 0x00 ∷ [])
    (Verdict.satisfiable 1 1 2 (0x4001 ∷ 0x4002 ∷ []))
    ∷ is (0x0A ∷ 0x07 ∷ 0x08 ∷ 0x05 ∷ 0x00 ∷ 0x08 ∷ 0x06 ∷ 0x03 ∷ 0x00 ∷ 0x05 ∷ 0x00 ∷ [])
    (Verdict.satisfiable 1 1 2 (0x4000 ∷ 0x4001 ∷ []))
    ∷ is (0x0A ∷ 0x08 ∷ 0x07 ∷ 0x06 ∷ 0x03 ∷ 0x01 ∷ 0x03 ∷ 0x00 ∷ 0x08 ∷ 0x05 ∷ 0x00 ∷ [])
    (Verdict.satisfiable 1 2 3 (0x4000 ∷ 0x4002 ∷ 0x4000 ∷ []))
    ∷ is (0x06 ∷ 0x08 ∷ 0x0A ∷ 0x07 ∷ 0x06 ∷ 0x02 ∷ 0x03 ∷ 0x00 ∷ 0x08 ∷ 0x05 ∷ 0x00 ∷ 0x08 ∷ 0x0A ∷ 0x07 ∷ 0x03 ∷ 0x01 ∷ 0x08
    ∷ 0x05 ∷ 0x00 ∷ [])
    (Verdict.satisfiable 2 1 5 (0x4000 ∷ 0x4001 ∷ 0x4001 ∷ []))
    ∷ []

pub cases_decided : map (λ (e : Example). verdict 256 59648 556 e.bytes) cases ≡ map (λ (e : Example). e.outcome) cases
unfolding verdict
cases_decided = refl
