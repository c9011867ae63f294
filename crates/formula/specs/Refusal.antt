-- Why reading refuses (MEANING 1.4): the type that the code hands back, carried whole by every definition. What a refusal consists of is
-- said here and nowhere else. Assumes nothing.
use Rattle.std.proofs.Math.Option.{Option, none, some}
use Rattle.std.specs.Prelude.{ℕ, ◌+◌, ◌≤◌}
use Rattle.formula.specs.declared.Fault.{Fault}
use Rattle.formula.specs.declared.Fault.TheVariants.{MissingOperator, UnknownOpcode, TooManyOperators, TooManyOfKind}
use Rattle.formula.specs.declared.Fault.TheVariants.{MissingOperand, UnknownSignal, UnboundVariable, BytesLeft}
use Rattle.formula.specs.declared.Refusal.{Refusal}
use Rattle.formula.specs.declared.Refusal.TheVariants.{AtByte, Unguarded}

-- The number of the question that each fault is the answer "no" to. Question 8 has a refusal of its own.
abbrev pub fault_code : Fault → ℕ
fault_code MissingOperator = 1
fault_code UnknownOpcode = 2
fault_code TooManyOperators = 3
fault_code TooManyOfKind = 4
fault_code MissingOperand = 5
fault_code UnknownSignal = 6
fault_code UnboundVariable = 7
fault_code BytesLeft = 9

-- What is told of a refusal: its number, 1 to 9, its place, and the place of a binder if it has one.
pub record Told : Type 0 where
  pub code : ℕ
  pub place : ℕ
  pub binder_place : Option ℕ

-- Of each kind: 8 has the place of the variable's operand and that of its binder's byte, any other its number and one place.
abbrev pub told : Refusal → Told
told (AtByte fault at) = record { code = fault_code fault; place = at; binder_place = none }
told (Unguarded at binder-at) = record { code = 8; place = at; binder_place = some binder-at }

-- its number
abbrev pub code_of : Refusal → ℕ
code_of why = (told why).code

-- its place
abbrev pub place_of : Refusal → ℕ
place_of why = (told why).place

-- the place of the binder's byte
abbrev pub binder_place_of : Refusal → Option ℕ
binder_place_of why = (told why).binder_place

-- the refusal for this fault at the byte of this place
abbrev pub at_byte : Fault → (place : ℕ) → Refusal
at_byte fault place = AtByte fault place

-- the refusal 8 of the operand at a place, for the binder whose byte is at another
abbrev pub unguarded : (binder-at place : ℕ) → Refusal
unguarded binder-at place = Unguarded place binder-at

-- the same refusal, its places taken to others
abbrev pub moved_to : (ℕ → ℕ) → Refusal → Refusal
moved_to place (AtByte fault at) = AtByte fault (place at)
moved_to place (Unguarded at binder-at) = Unguarded (place at) (place binder-at)

-- the same refusal, its places counted from n bytes earlier
abbrev pub places_from : ℕ → Refusal → Refusal
places_from n = moved_to (◌+◌ n)

-- no place of it is above n
abbrev pub PlacesWithin : (n : ℕ) → Refusal → Type 0
PlacesWithin n (AtByte fault at) = at ≤ n
PlacesWithin n (Unguarded at binder-at) = (at ≤ n) × (binder-at ≤ n)
