-- Reading a formula from bytes (MEANING 1.4): the questions in their order, each with the fault that a "no" tells. Refusal.antt has the
-- number of each. Assumes nothing.
use Rattle.std.specs.Prelude.{Bool, true, false, cond, List, [], ◌∷◌, map, ℕ, zero, suc, ◌+◌, ◌-◌, ltb, leb, length, get_or, drop}
use Rattle.formula.specs.Formula.{Leaf, Formula}
use Rattle.formula.specs.Table.{Entries, entries}
use Rattle.formula.specs.Refusal.{at_byte, unguarded, places_from}
use Rattle.formula.specs.declared.Fault.{Fault}
use Rattle.formula.specs.declared.Fault.TheVariants.{MissingOperator, UnknownOpcode, TooManyOperators, TooManyOfKind}
use Rattle.formula.specs.declared.Fault.TheVariants.{MissingOperand, UnknownSignal, UnboundVariable, BytesLeft}
use Rattle.formula.specs.declared.Refusal.{Refusal}

-- What a byte may be where an operator begins. Pair: or (06) where true, and (07) where false; fix: greatest (0A) where true, least (09)
-- where false.
pub data Opcode : Type 0 where
  unknown : Opcode
  constant signal : Bool → Opcode
  variable : Opcode
  pair : Bool → Opcode
  next : Opcode
  fix : Bool → Opcode

-- MEANING 1.1, the table of opcodes: those from 01 to 0A are known.
abbrev pub opcode : ℕ → Opcode
opcode b =
    get_or
    (Opcode.unknown ∷ Opcode.constant true ∷ Opcode.constant false ∷ Opcode.signal true ∷ Opcode.signal false ∷ Opcode.variable
    ∷ Opcode.pair true ∷ Opcode.pair false ∷ Opcode.next ∷ Opcode.fix false ∷ Opcode.fix true ∷ [])
    b
    Opcode.unknown

-- The byte of each (MEANING 1.1); 0 is no opcode's.
abbrev pub byte_of : Opcode → ℕ
byte_of Opcode.unknown = 0
byte_of (Opcode.constant b) = cond b 1 2
byte_of (Opcode.signal present) = cond present 3 4
byte_of Opcode.variable = 5
byte_of (Opcode.pair o) = cond o 6 7
byte_of Opcode.next = 8
byte_of (Opcode.fix g) = cond g 10 9

-- What reading has come to: a place, the bytes from there on, and how many operators, or, next and fixpoints it has counted.
pub record Head : Type 0 where
  pub at : ℕ
  pub left : List ℕ
  pub commands : ℕ
  pub ors : ℕ
  pub nexts : ℕ
  pub fixpoints : ℕ

-- Reading a part of the bytes: a refusal, or what was read, and where reading has come to.
pub data Read (A : Type 0) : Type 0 where
  refused : Refusal → Read A
  got : A → Head → Read A

-- A way to read one thing.
abbrev pub Reader : Type 0 → Type 0
Reader A = Head → Read A

-- Nothing more is read.
abbrev pub done : {A : Type 0} → A → Reader A
done a h = Read.got a h

-- A refusal is final; else reading goes on from what it has come to.
abbrev pub and_then : {A B : Type 0} → (A → Reader B) → Read A → Read B
and_then f (Read.refused why) = Read.refused why
and_then f (Read.got a h) = f a h

-- One thing is read after another: what a line of `do` means.
infixl 20 ◌>>=◌
abbrev pub ◌>>=◌ : {A B : Type 0} → Reader A → (A → Reader B) → Reader B
(m >>= f) h = and_then f (m h)

-- The questions 1 and 5: the next byte, or, where no bytes are left, the refusal at this place, which is the length.
abbrev pub byte_from : Fault → Head → List ℕ → Read ℕ
byte_from missing h [] = Read.refused (at_byte missing h.at)
byte_from missing h (b ∷ bs) =
    Read.got b (record { at = h.at + 1; left = bs; commands = h.commands; ors = h.ors; nexts = h.nexts; fixpoints = h.fixpoints })

-- The same, from where reading has come to.
abbrev pub byte : Fault → Reader ℕ
byte missing h = byte_from missing h h.left

-- The answer to a question about the byte that was just read: no is the refusal at the place of this byte.
abbrev pub answered : Bool → (ℕ → Refusal) → Reader (Unit {0})
answered true why h = Read.got tt h
answered false why h = Read.refused (why (h.at - 1))

-- A question whose answer depends on what reading has come to.
abbrev pub ask_here : (Head → Bool) → (ℕ → Refusal) → Reader (Unit {0})
ask_here q why h = answered (q h) why h

-- The place of the byte that was just read.
abbrev pub place_read : Reader ℕ
place_read h = Read.got (h.at - 1) h

-- Question 2: whether it is an opcode.
abbrev pub known : Opcode → Bool
known Opcode.unknown = false
known (Opcode.constant b) = true
known (Opcode.signal b) = true
known Opcode.variable = true
known (Opcode.pair o) = true
known Opcode.next = true
known (Opcode.fix g) = true

-- Question 4: whether there is room for one more such operator.
abbrev pub within : Opcode → Head → Bool
within Opcode.unknown h = true
within (Opcode.constant b) h = true
within (Opcode.signal b) h = true
within Opcode.variable h = true
within (Opcode.pair true) h = ltb h.ors 12
within (Opcode.pair false) h = true
within Opcode.next h = ltb h.nexts 12
within (Opcode.fix g) h = ltb h.fixpoints 7

-- One operator more, and so many or, next and fixpoints.
abbrev pub one_more : (ors nexts fixpoints : ℕ) → Head → Head
one_more o n f h =
    record { at = h.at; left = h.left; commands = h.commands + 1; ors = h.ors + o; nexts = h.nexts + n; fixpoints = h.fixpoints + f }

-- The operator is counted.
abbrev pub counted : Opcode → Head → Head
counted Opcode.unknown h = one_more 0 0 0 h
counted (Opcode.constant b) h = one_more 0 0 0 h
counted (Opcode.signal b) h = one_more 0 0 0 h
counted Opcode.variable h = one_more 0 0 0 h
counted (Opcode.pair true) h = one_more 1 0 0 h
counted (Opcode.pair false) h = one_more 0 0 0 h
counted Opcode.next h = one_more 0 1 0 h
counted (Opcode.fix g) h = one_more 0 0 1 h

-- The same as a step of reading.
abbrev pub count : Opcode → Reader (Unit {0})
count k h = Read.got tt (counted k h)

-- A fixpoint around: the place of its byte, and whether there is a next between it and here (question 8).
pub record Binder : Type 0 where
  pub place : ℕ
  pub guarded : Bool

-- The fixpoints around, innermost first.
abbrev pub Scope : Type 0
Scope = List Binder

-- what a scope gives for a depth that names none of them
abbrev pub outside : Binder
outside = record { place = 0; guarded = false }

-- the fixpoint that was just entered
abbrev pub entered : (place : ℕ) → Binder
entered place = record { place = place; guarded = false }

-- a fixpoint, seen from behind a next
abbrev pub behind_next : Binder → Binder
behind_next b = record { place = b.place; guarded = true }

-- Question 8, about a variable whose depth was just read and names a fixpoint. The refusal has the place of that fixpoint too.
abbrev pub guard_asked : Scope → (depth : ℕ) → Reader Formula
guard_asked scope d = do
  _ ← ask_here (λ h. (get_or scope d outside).guarded) (unguarded (get_or scope d outside).place)
  done (Formula.variable d)

-- The questions 7 and 8.
abbrev pub depth_asked : Scope → (depth : ℕ) → Reader Formula
depth_asked scope d = do
  _ ← ask_here (λ h. ltb d (length scope)) (at_byte UnboundVariable)
  guard_asked scope d

-- What comes behind an opcode, read to its end, with the questions 5 (the operand byte is missing), 6 (the signal is unknown), 7 and 8.
-- `self` reads an operand formula.
abbrev pub operands : (Scope → Reader Formula) → Scope → Opcode → Reader Formula
operands self scope Opcode.unknown = done (Formula.leaf (Leaf.constant false))
operands self scope (Opcode.constant b) = done (Formula.leaf (Leaf.constant b))
operands self scope (Opcode.signal present) = do
  s ← byte MissingOperand
  _ ← ask_here (λ h. leb s 15) (at_byte UnknownSignal)
  done (Formula.leaf (Leaf.signal present s))
operands self scope Opcode.variable = do
  d ← byte MissingOperand
  depth_asked scope d
operands self scope (Opcode.pair o) = do
  a ← self scope
  b ← self scope
  done (Formula.pair o a b)
operands self scope Opcode.next = do
  a ← self (map behind_next scope)
  done (Formula.next a)
operands self scope (Opcode.fix g) = do
  place ← place_read
  a ← self (entered place ∷ scope)
  done (Formula.fix g a)

-- The questions that each operator is asked, and its operands: 1 (is there a byte), 2 (is it an opcode), 3 (are there 48 operators at most)
-- and 4 (is there room for one more of its kind).
abbrev pub questions : (Scope → Reader Formula) → Scope → Reader Formula
questions self scope = do
  b ← byte MissingOperator
  _ ← ask_here (λ h. known (opcode b)) (at_byte UnknownOpcode)
  _ ← ask_here (λ h. ltb h.commands 48) (at_byte TooManyOperators)
  _ ← ask_here (λ h. within (opcode b) h) (at_byte TooManyOfKind)
  _ ← count (opcode b)
  operands self scope (opcode b)

-- One formula. The first number bounds how deep operands nest. That of the bytes left is enough: proofs/Fuel.antt has the law.
abbrev pub formula : ℕ → Scope → Reader Formula
formula zero scope h = Read.refused (at_byte MissingOperator h.at)
formula (suc deep) scope h = questions (formula deep) scope h

-- The outcome of reading (MEANING 1.5): a refusal, or what was accepted.
pub data Reading (A : Type 0) : Type 0 where
  refused : Refusal → Reading A
  accepted : A → Reading A

-- Question 9: all bytes are used, or the refusal at the first that is not.
abbrev pub ended : Formula → Head → List ℕ → Reading Formula
ended f h [] = Reading.accepted f
ended f h (b ∷ bs) = Reading.refused (at_byte BytesLeft h.at)

-- The outcome, once reading has come to the end of subformula 0.
abbrev pub whole : Read Formula → Reading Formula
whole (Read.refused why) = Reading.refused why
whole (Read.got f h) = ended f h h.left

-- Reading begins at place 0 with nothing counted.
abbrev pub start : List ℕ → Head
start bytes = record { at = 0; left = bytes; commands = 0; ors = 0; nexts = 0; fixpoints = 0 }

-- The formula that the bytes are, or the refusal.
unfoldable pub parse : List ℕ → Reading Formula
parse bytes = whole (formula (length bytes) [] (start bytes))

-- The outcome with the subformulas in place of the tree.
abbrev pub with_entries : Reading Formula → Reading Entries
with_entries (Reading.refused why) = Reading.refused why
with_entries (Reading.accepted f) = Reading.accepted (entries f)

-- Reading: MEANING 1.5.
unfoldable pub reading : List ℕ → Reading Entries
unfolding parse
reading bytes = with_entries (parse bytes)

-- The outcome, a refusal's places counted from n bytes earlier.
abbrev pub counted_from : {A : Type 0} → ℕ → Reading A → Reading A
counted_from n (Reading.refused why) = Reading.refused (places_from n why)
counted_from n (Reading.accepted a) = Reading.accepted a

-- A reader that has come to some place of the bytes reads from there, and counts places from the first byte. Behind the last byte
-- nothing is left to read: the refusal is 1, where the reader is.
unfoldable pub reading_from : List ℕ → ℕ → Reading Entries
unfolding reading
reading_from bytes at = counted_from at (reading (drop at bytes))
