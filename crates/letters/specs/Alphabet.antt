-- The alphabet: which letters there are (the papers: which places). MEANING 2.1. Assumes nothing.
use Rattle.std.specs.Prelude.{Bool, not, ◌&&◌, ℕ}
use Rattle.base.specs.Lists.{same_bit}
use Rattle.base.specs.Bits.{bit}

-- the scale flags: the signals of a heading in the previous revision's scale and of one in the current revision's
abbrev pub previous_scale : ℕ
previous_scale = 14

abbrev pub current_scale : ℕ
current_scale = 15

-- whether a word has both of them
abbrev pub both_scales : ℕ → Bool
both_scales w = bit w previous_scale && bit w current_scale

-- MEANING 2.1: a word is in the alphabet exactly if it has one of them and not the other
unfoldable pub in_alphabet : ℕ → Bool
in_alphabet a = not (same_bit (bit a previous_scale) (bit a current_scale))
