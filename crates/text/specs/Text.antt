-- Text in a buffer, and numbers as text. Assumes nothing.
use Rattle.std.specs.Prelude.{Bool, cond, ◌&&◌, ◌≡◌, List, [], ◌∷◌, ◌++◌, ℕ, zero, suc, ◌+◌, ◌-◌, ◌/◌, ◌%◌, ◌≤◌, ◌<◌, ltb, leb, length, set}

-- A buffer, and the place behind what was written into it.
pub record Buffer : Type 0 where
  pub bytes : List ℕ
  pub at : ℕ

-- the buffer with these bytes, written up to a place
abbrev pub buffer : List ℕ → ℕ → Buffer
buffer bytes at = record { bytes = bytes; at = at }

-- One byte more, if there is room for it.
abbrev pub put : Buffer → ℕ → Buffer
put s b = cond (ltb s.at (length s.bytes)) (buffer (set s.bytes s.at b) (s.at + 1)) s

-- The bytes of a text, one after another. proofs/Writing.antt: where they all have room, they stand at the place, and the rest of the
-- buffer is as it was.
abbrev pub written : Buffer → List ℕ → Buffer
written s [] = s
written s (b ∷ text) = written (put s b) text

-- Writing the text into the buffer s leaves the buffer t.
pub record Wrote (s : Buffer) (text : List ℕ) (t : Buffer) : Type 0 where
  pub is : t ≡ written s text

-- A place beyond the buffer's end becomes its start.
abbrev pub within : Buffer → Buffer
within s = cond (leb s.at (length s.bytes)) s (buffer s.bytes 0)

-- The line's end, behind a text.
abbrev pub ended : Buffer → Buffer
ended s = within (put s 10)

-- A base whose digits have a glyph each.
pub record Radix (base : ℕ) : Type 0 where
  pub some : 1 < base
  pub few : base ≤ 16

-- The ASCII code of a digit below 16: `0` to `9`, then `a` to `f`.
abbrev pub glyph : ℕ → ℕ
glyph d = cond (ltb d 10) (48 + d) (87 + d)

-- The number n has no digit in front of its last one.
abbrev pub is_last : (base width n : ℕ) → Bool
is_last base width n = ltb n base && leb width 1

-- The digits of n, the first number being a bound on how many there are.
abbrev pub numeral_by : (most base width n : ℕ) → List ℕ
numeral_by zero base width n = []
numeral_by (suc most) base width n =
    let front = numeral_by most base (width - 1) (n / base) in
    cond (is_last base width n) [] front ++ (glyph (n % base) ∷ [])

-- The digits of n in a base, the most significant first, with zeros in front up to the width.
abbrev pub numeral : (base width n : ℕ) → List ℕ
numeral base width n = numeral_by (suc (n + width)) base width n

-- A number as MEANING 6.2 has it.
abbrev pub decimal : ℕ → List ℕ
decimal n = numeral 10 1 n

-- In base 16, letters in lower case.
abbrev pub hex : (width n : ℕ) → List ℕ
hex width n = numeral 16 width n

-- A number with a blank before it: MEANING 6.2.
abbrev pub number_text : ℕ → List ℕ
number_text n = (32 ∷ []) ++ decimal n

-- The texts of a list's members, one after another.
abbrev pub each : (ℕ → List ℕ) → List ℕ → List ℕ
each text [] = []
each text (x ∷ xs) = text x ++ each text xs

-- A letter in base 16, between two texts: MEANING 6.2.
abbrev pub letter_text : (front back : List ℕ) → ℕ → List ℕ
letter_text front back letter = front ++ hex 4 letter ++ back
