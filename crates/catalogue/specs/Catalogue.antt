-- What a catalogue is (MEANING 9.1; document 02: a sheet): formulas with their numbers, one record each, one record behind another.
-- Assumes nothing.
use Rattle.std.specs.Prelude.{◌≡◌, List, [], ◌∷◌, ℕ, ◌+◌, ◌*◌, ◌≤◌, length}
use Rattle.base.specs.Lists.{flat_map}
use Rattle.catalogue.specs.declared.Record.{Record}

-- the byte that opens a record
abbrev pub mark : ℕ
mark = 32

-- A formula in a catalogue: its number in two bytes, and its bytes, whatever they are. That a byte is below 256 is not said here: those of a
-- slice are, and only what counts entries needs it (`few-records`, proofs/RunLaws.antt).
pub record Entry : Type 0 where
  pub low : ℕ
  pub high : ℕ
  pub formula : List ℕ

-- the number of an entry, the low byte first
abbrev pub number : Entry → ℕ
number e = e.low + 256 * e.high

-- its record: the mark, the number, how many bytes the formula has, and these
abbrev pub spelled : Entry → List ℕ
spelled e = mark ∷ e.low ∷ e.high ∷ length e.formula ∷ e.formula

-- the records of some entries, one behind another
abbrev pub written : List Entry → List ℕ
written es = flat_map spelled es

-- The numbers rise: the first is at least `least`, and each is larger than the one before.
abbrev pub Rising : (least : ℕ) → List Entry → Type 0
Rising least [] = Unit {0}
Rising least (e ∷ es) = (least ≤ number e) × Rising (number e + 1) es

-- The bytes are a catalogue, and these are its entries. No bytes are one without entries.
pub record Catalogue (bytes : List ℕ) (es : List Entry) : Type 0 where
  pub rising : Rising 0 es
  pub is : written es ≡ bytes

-- where the formulas of entries stand that are written from a place on, with their numbers
abbrev pub placed : (at : ℕ) → List Entry → List Record
placed at [] = []
placed at (e ∷ es) =
    let size = length e.formula in
    record { number = number e; start = at + 4; size = size } ∷ placed (at + 4 + size) es
