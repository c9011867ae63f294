-- The truth examples of document 01, and two of places that there are not, computed from the definition, and the numbers of the
-- refusals. Assumes nothing.
use Rattle.std.proofs.Common.{◌≡◌, refl, true, false, List, [], ◌∷◌, map, ℕ}
use Rattle.lasso.specs.Truth.{Truth, truth}
use Rattle.lasso.specs.Refusal.{code_of}
use Rattle.lasso.specs.declared.Refusal.TheVariants.{Stem, Positions, Words, Alphabet}

pub record Example : Type 0 where
  pub bytes : List ℕ
  pub letters : List ℕ
  pub stem : ℕ
  pub outcome : Truth

abbrev is : List ℕ → List ℕ → ℕ → Truth → Example
is b l s o = record { bytes = b; letters = l; stem = s; outcome = o }

-- sooner or later signal 0; signal 0 for ever, as a least fixpoint
abbrev eventually : List ℕ
eventually = 0x09 ∷ 0x06 ∷ 0x03 ∷ 0x00 ∷ 0x08 ∷ 0x05 ∷ 0x00 ∷ []

abbrev always : List ℕ
always = 0x09 ∷ 0x07 ∷ 0x03 ∷ 0x00 ∷ 0x08 ∷ 0x05 ∷ 0x00 ∷ []

abbrev pub table : List Example
table =
    is eventually (0x4000 ∷ 0x4001 ∷ []) 1 (Truth.holds true (27 ∷ 31 ∷ []))
    ∷ is eventually (0x4000 ∷ []) 0 (Truth.holds false (0 ∷ []))
    ∷ is eventually (0x4000 ∷ 0x4000 ∷ 0x4001 ∷ []) 2 (Truth.holds true (27 ∷ 27 ∷ 31 ∷ []))
    ∷ is always (0x4001 ∷ []) 0 (Truth.holds false (4 ∷ []))
    ∷ is eventually [] 0 (Truth.refused Stem)
    ∷ is eventually (0x4001 ∷ 0x0001 ∷ []) 0 (Truth.refused Alphabet)
    ∷ is eventually (0xC000 ∷ 0x4001 ∷ []) 0 (Truth.refused Alphabet)
    ∷ []

pub examples : map (λ (x : Example). truth x.bytes (record { letters = x.letters; stem = x.stem }) 8) table ≡ map
    (λ (x : Example). x.outcome) table
unfolding truth
examples = refl

-- the number of a refusal, and 0 where there is none
abbrev number : Truth → ℕ
number (Truth.refused why) = code_of why
number (Truth.holds b words) = 0

-- Theorem: the same refusals by their numbers.
pub examples_numbered : map (λ (x : Example). number (truth x.bytes (record { letters = x.letters; stem = x.stem }) 8)) table
    ≡ 0 ∷ 0 ∷ 0 ∷ 0 ∷ 16 ∷ 19 ∷ 19 ∷ []
unfolding truth
examples_numbered = refl

-- Theorem: the number of each question behind those of reading.
pub questions_numbered : map code_of (Stem ∷ Positions ∷ Words ∷ Alphabet ∷ []) ≡ 16 ∷ 17 ∷ 18 ∷ 19 ∷ []
questions_numbered = refl
