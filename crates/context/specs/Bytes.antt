-- Where a subformula's bytes begin and end, by the stored lengths and the opcodes, and bytes with others in their place. MEANING 11.1.
-- Assumes nothing.
use Rattle.std.specs.Prelude.{List, ◌++◌, ℕ, ◌+◌, ◌-◌, get_or, take, drop}
use Rattle.formula.specs.Table.{Entries, bytes_before}

-- the place of the first byte of subformula e,
abbrev pub first_byte : Entries → ℕ → ℕ
first_byte x e = bytes_before x.operators e

-- and the place behind its last one
abbrev pub last_byte : Entries → ℕ → ℕ
last_byte x e = bytes_before x.operators (e + get_or x.lengths e 0)

-- the bytes from one place up to another
abbrev pub between : (from to : ℕ) → List ℕ → List ℕ
between from to bytes = take (to - from) (drop from bytes)

-- the bytes with others in place of those
abbrev pub spliced : (from to : ℕ) (old new : List ℕ) → List ℕ
spliced from to old new = take from old ++ (new ++ drop to old)

-- the bytes of subformula e,
abbrev pub subformula_bytes : List ℕ → Entries → ℕ → List ℕ
subformula_bytes old x e = between (first_byte x e) (last_byte x e) old

-- and the formula's with others in their place
abbrev pub replaced : List ℕ → Entries → ℕ → List ℕ → List ℕ
replaced old x e new = spliced (first_byte x e) (last_byte x e) old new
