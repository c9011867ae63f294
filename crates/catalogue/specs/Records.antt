-- The records of a byte string, one after another, or the place where it is damaged (MEANING 9.2). That this tells catalogues from other
-- strings, and that the place is the least of all faults', are theorems: proofs/CatalogueLaws.antt, proofs/FaultLaws.antt. Assumes nothing.
use Rattle.std.specs.Prelude.{Bool, cond, ◌||◌, List, [], ◌∷◌, ℕ, zero, suc, ◌+◌, eqb, leb, length, get_or}
use Rattle.std.specs.Prelude.{Option, Some, None, Result, Ok, Err}
use Rattle.base.specs.Ask.{ask}
use Rattle.base.specs.Bytes.{number_at}
use Rattle.catalogue.specs.Catalogue.{mark}
use Rattle.catalogue.specs.declared.Record.{Record}

-- a byte, or 0 behind the last
abbrev pub byte : List ℕ → (at : ℕ) → ℕ
byte bytes at = get_or bytes at 0

-- of the record that begins at a place: its number, how many bytes its formula has, where it ends; and all that is kept of it
abbrev pub number_of : List ℕ → (at : ℕ) → ℕ
number_of bytes at = number_at 2 bytes (at + 1)

abbrev pub size_of : List ℕ → (at : ℕ) → ℕ
size_of bytes at = byte bytes (at + 3)

abbrev pub end_of : List ℕ → (at : ℕ) → ℕ
end_of bytes at = at + 4 + size_of bytes at

abbrev pub record_of : List ℕ → (at : ℕ) → Record
record_of bytes at = record { number = number_of bytes at; start = at + 4; size = size_of bytes at }

-- whether its number is not too small; one that is cut short is not asked
abbrev pub may_be : List ℕ → (at least : ℕ) → Bool
may_be bytes at least = leb (length bytes) (at + 2) || leb least (number_of bytes at)

-- what stands where a record is due: nothing more, at the end; or a record; or a fault, with its place
abbrev pub Due : Type 0
Due = Result (Option Record) ℕ

-- What stands at a place where a record is due that may have the numbers from `least` on; of a record its number, where its formula begins
-- and how long it is.
abbrev pub record_at : List ℕ → (at least : ℕ) → Due
record_at bytes at least =
    cond (leb (length bytes) at) (Ok None)
    (ask (eqb (byte bytes at) mark) (Err at)
    (ask (may_be bytes at least) (Err (at + 1))
    (ask (leb (end_of bytes at) (length bytes)) (Err (length bytes))
    (Ok (Some (record_of bytes at))))))

-- A byte string is damaged at a place, or whole, with its records.
pub data Records : Type 0 where
  damaged : (place : ℕ) → Records
  whole : List Record → Records

-- one record more, before the others
abbrev pub behind : Record → Records → Records
behind r (Records.damaged place) = Records.damaged place
behind r (Records.whole rs) = Records.whole (r ∷ rs)

-- what stands at a place, with what comes behind a record
abbrev pub onward : (rest : (at least : ℕ) → Records) → Due → Records
onward rest (Ok None) = Records.whole []
onward rest (Err place) = Records.damaged place
onward rest (Ok (Some r)) = behind r (rest (r.start + r.size) (r.number + 1))

-- The records from a place on, so many at most; each takes four bytes or more, so as many as there are bytes are enough.
abbrev pub records_within : ℕ → List ℕ → (at least : ℕ) → Records
records_within zero bytes at least = Records.whole []
records_within (suc n) bytes at least = onward (records_within n bytes) (record_at bytes at least)

-- all of them
unfoldable pub records_from : List ℕ → (at least : ℕ) → Records
records_from bytes at least = records_within (length bytes) bytes at least

abbrev pub records : List ℕ → Records
records bytes = records_from bytes 0 0
