-- Numbers in bytes, the lowest byte first, over any width. proofs/BytesLaws.antt has the laws. Assumes nothing.
use Rattle.std.specs.Prelude.{List, [], ◌∷◌, ◌++◌, ℕ, zero, suc, ◌+◌, ◌*◌, ◌/◌, ◌%◌, get_or, take, drop}

-- the number in w bytes from an index on
abbrev pub number_at : (w : ℕ) → List ℕ → (at : ℕ) → ℕ
number_at zero a at = 0
number_at (suc w) a at = get_or a at 0 + 256 * number_at w a (suc at)

-- the w lowest bytes of a number
abbrev pub bytes_of : (w x : ℕ) → List ℕ
bytes_of zero x = []
bytes_of (suc w) x = x % 256 ∷ bytes_of w (x / 256)

-- a list with w bytes of a number written from an index on
abbrev pub with_number : (w : ℕ) → List ℕ → (at x : ℕ) → List ℕ
with_number w a at x = take at a ++ (bytes_of w x ++ drop (at + w) a)
