-- The examples of MEANING 5.11, as one statement that the definitions compute through the reading of the bytes, and the numbers of the
-- refusals. Assumes nothing.
use Rattle.std.proofs.Common.{◌≡◌, refl, List, [], ◌∷◌, map, ℕ}
use Rattle.formula.specs.Refusal.{unguarded, code_of}
use Rattle.construction.specs.Construction.{Construction, construction}
use Rattle.construction.specs.Questions.{question_code}
use Rattle.construction.specs.declared.Question.TheVariants.{Capacity, Workspace, Buffer, Nodes, Profiles, Built}

pub record Example : Type 0 where
  pub bytes : List ℕ
  pub capacity : ℕ
  pub workspace : ℕ
  pub outcome : Construction

abbrev is : List ℕ → (N workspace : ℕ) → Construction → Example
is b N w o = record { bytes = b; capacity = N; workspace = w; outcome = o }

abbrev pub examples : List Example
examples =
    is (0x01 ∷ []) 2 16 (Construction.built (0x1 ∷ 0x0 ∷ []))
    ∷ is (0x01 ∷ []) 1 8 (Construction.refused Nodes)
    ∷ is (0x01 ∷ []) 2 15 (Construction.refused Workspace)
    ∷ is (0x01 ∷ []) 0 16 (Construction.refused Capacity)
    ∷ is (0x01 ∷ []) 1025 8200 (Construction.refused Capacity)
    ∷ is (0x02 ∷ []) 1 8 (Construction.built (0x1 ∷ []))
    ∷ is (0x0A ∷ 0x07 ∷ 0x09 ∷ 0x06 ∷ 0x03 ∷ 0x00 ∷ 0x08 ∷ 0x05 ∷ 0x00 ∷ 0x08 ∷ 0x05 ∷ 0x00 ∷ []) 3 24
    (Construction.built (0x1 ∷ 0x100 ∷ 0x140 ∷ []))
    ∷ is (0x0A ∷ 0x07 ∷ 0x03 ∷ 0x00 ∷ 0x07 ∷ 0x08 ∷ 0x04 ∷ 0x00 ∷ 0x08 ∷ 0x08 ∷ 0x05 ∷ 0x00 ∷ []) 3 24
    (Construction.built (0x1 ∷ 0xA0 ∷ 0x100 ∷ []))
    ∷ is (0x0A ∷ 0x08 ∷ 0x07 ∷ 0x08 ∷ 0x05 ∷ 0x00 ∷ 0x09 ∷ 0x06 ∷ 0x08 ∷ 0x05 ∷ 0x00 ∷ 0x03 ∷ 0x00 ∷ []) 5 40
    (Construction.built (0x1 ∷ 0x4 ∷ 0x110 ∷ 0x10 ∷ 0x104 ∷ []))
    ∷ is (0x09 ∷ 0x05 ∷ 0x00 ∷ []) 0 0 (Construction.unread (unguarded 0 2))
    ∷ []

pub examples_built : map (λ (e : Example). construction e.capacity e.workspace e.bytes) examples
    ≡ map (λ (e : Example). e.outcome) examples
unfolding construction
examples_built = refl

-- the number of a refusal, and 0 where there is none
abbrev number : Construction → ℕ
number (Construction.unread why) = code_of why
number (Construction.refused q) = question_code q
number (Construction.built words) = 0

-- Theorem: the same refusals by their numbers.
pub examples_numbered : map (λ (e : Example). number (construction e.capacity e.workspace e.bytes)) examples
    ≡ 0 ∷ 14 ∷ 12 ∷ 11 ∷ 11 ∷ 0 ∷ 0 ∷ 0 ∷ 0 ∷ 8 ∷ []
unfolding construction
examples_numbered = refl

-- Theorem: the number of each question, of those that the decision and the search ask, too.
pub questions_numbered : map question_code (Capacity ∷ Workspace ∷ Buffer ∷ Nodes ∷ Profiles ∷ Built ∷ [])
    ≡ 11 ∷ 12 ∷ 13 ∷ 14 ∷ 15 ∷ 36 ∷ []
questions_numbered = refl
