-- The faults of a byte string (MEANING 9.2), each with its place, said without going through it. Several may be there; what counts is the
-- least place (`LeastFault`), and it is the one that going through finds (proofs/FaultLaws.antt). Assumes nothing.
use Rattle.std.specs.Prelude.{◌≡◌, List, ℕ, ◌+◌, ◌≤◌, ◌<◌, length}
use Rattle.catalogue.specs.Catalogue.{mark}
use Rattle.catalogue.specs.Records.{byte, number_of, end_of}

-- A record begins at a place, and all of it is there.
pub record WholeAt (bytes : List ℕ) (at : ℕ) : Type 0 where
  pub marked : byte bytes at ≡ mark
  pub ended : end_of bytes at ≤ length bytes

-- Where records are due from a place on, each with the least number that it may have: there, and behind every record that is whole.
pub data DueAt (bytes : List ℕ) : (from least at next : ℕ) → Type 0 where
  here : {from least : ℕ} → DueAt bytes from least from least
  later : {from least at next : ℕ} → WholeAt bytes from → DueAt bytes (end_of bytes from) (number_of bytes from + 1) at next
      → DueAt bytes from least at next

-- What is wrong where a record is due, and the place that is told: another byte than the mark, its own place; a number that is too small,
-- if both its bytes are there, the place of the low one; a record that is cut short, the length of the whole.
pub data FaultAt (bytes : List ℕ) (at least : ℕ) : (place : ℕ) → Type 0 where
  unmarked : at < length bytes → (byte bytes at ≡ mark → ⊥) → FaultAt bytes at least at
  unrisen : byte bytes at ≡ mark → at + 2 < length bytes → number_of bytes at < least → FaultAt bytes at least (at + 1)
  cut_short : at < length bytes → byte bytes at ≡ mark → length bytes < end_of bytes at → FaultAt bytes at least (length bytes)

-- the faults at and behind a place where a record is due
abbrev pub FaultFrom : List ℕ → (from least place : ℕ) → Type 0
FaultFrom bytes from least place =
    (at : ℕ) × (next : ℕ) × DueAt bytes from least at next × FaultAt bytes at next place

-- the faults of a byte string: the first record is due at its first byte, and may have any number
abbrev pub HasFault : List ℕ → (place : ℕ) → Type 0
HasFault bytes place = FaultFrom bytes 0 0 place

-- p is the place of a fault, and no fault has a smaller one.
pub record LeastFault (bytes : List ℕ) (p : ℕ) : Type 0 where
  pub is_fault : HasFault bytes p
  pub least : (q : ℕ) → HasFault bytes q → p ≤ q
