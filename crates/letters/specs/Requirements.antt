-- What a transition requires of its letter, when no letter can meet it, and which letter is taken else: MEANING 3.4, 3.5. Assumes nothing.
use Rattle.std.specs.Prelude.{Bool, cond, ◌&&◌, ◌||◌, ℕ, ◌^◌}
use Rattle.std.specs.Int.Bits.{bit_or}
use Rattle.base.specs.Lists.{any, range}
use Rattle.base.specs.Bits.{bit}
use Rattle.letters.specs.Alphabet.{previous_scale, current_scale, both_scales}
use Rattle.letters.specs.declared.Requirement.{Requirement}

-- MEANING 3.4: a clash: a bit that is set in both words, or the bits of both scale flags in one of them
unfoldable pub clash : Requirement → Bool
clash r =
    any (λ j. bit r.present j && bit r.absent j) (range 0 16) || (both_scales r.present || both_scales r.absent)

-- MEANING 3.5: the scale flag of the letter: the current one where it is to be present or the previous one absent, else the previous one
abbrev pub scale_for : Requirement → ℕ
scale_for r = cond (bit r.present current_scale || bit r.absent previous_scale) current_scale previous_scale

-- MEANING 3.5: the letter for a requirement has the signals that are to be present, and this flag
unfoldable pub letter_of : Requirement → ℕ
letter_of r = bit_or r.present (2 ^ scale_for r)
