-- What the inner functions of reading promise, in terms of the definitions. A reader of the public contract need not read it.
-- Assumes nothing.
use Rattle.std.specs.Prelude.{◌≡◌, Bool, true, false, List, [], ◌∷◌, map, ℕ, zero, suc, ◌+◌, ◌-◌, ◌≤◌, ◌<◌, ltb, length, get_or, drop, Result, MatchResult}
use Rattle.base.specs.Lists.{range}
use Rattle.formula.specs.Formula.{Leaf, Formula, size}
use Rattle.formula.specs.Table.{Operator, Table as Operators, table_from, lengths}
use Rattle.formula.specs.Reading.{Opcode, opcode, byte_of, Head as Point, Read, Reader, Scope as Enclosing, byte, within, counted}
use Rattle.formula.specs.Reading.{operands, formula, reading_from, Binder, entered, behind_next}
use Rattle.formula.specs.Rows.{opcode_at, operand_at, length_at, lengths_of, opcode_byte, operand_of}
use Rattle.formula.specs.Contract.{stored}
use Rattle.formula.specs.declared.Opcode as code
use Rattle.formula.specs.declared.Opcode.TheVariants as opcodes
use Rattle.formula.specs.declared.Fault.{Fault}
use Rattle.formula.specs.declared.Fault.TheVariants.{UnknownOpcode}
use Rattle.formula.specs.declared.Binder.{Binder as Kept}
use Rattle.formula.specs.declared.Head.{Head}
use Rattle.formula.specs.declared.Scope.{Scope}
use Rattle.formula.specs.declared.Table.{Table}
use Rattle.formula.specs.declared.Refusal.{Refusal}

-- the definition's opcode for each of the code's
abbrev pub named : code.Opcode → Opcode
named opcodes.True = Opcode.constant true
named opcodes.False = Opcode.constant false
named opcodes.Present = Opcode.signal true
named opcodes.Absent = Opcode.signal false
named opcodes.Variable = Opcode.variable
named opcodes.Or = Opcode.pair true
named opcodes.And = Opcode.pair false
named opcodes.Next = Opcode.next
named opcodes.Least = Opcode.fix false
named opcodes.Greatest = Opcode.fix true

-- Question 2: the byte is this opcode's, or no opcode's.
abbrev pub Decodes : ℕ → Result code.Opcode Fault → Type 0
Decodes b r = MatchResult r (λ op. opcode b ≡ named op) (λ why. (why ≡ UnknownOpcode) × (opcode b ≡ Opcode.unknown))

-- How many fixpoints further in the operands stand.
abbrev pub deeper : Opcode → ℕ
deeper Opcode.unknown = 0
deeper (Opcode.constant b) = 0
deeper (Opcode.signal present) = 0
deeper Opcode.variable = 0
deeper (Opcode.pair o) = 0
deeper Opcode.next = 0
deeper (Opcode.fix g) = 1

-- Where reading of the bytes s stands.
abbrev pub point : List ℕ → Head → Point
point s h = record { at = h.at; left = drop h.at s; commands = h.count; ors = h.ors; nexts = h.nexts; fixpoints = h.fixpoints }

-- One element for each enclosing fixpoint, innermost first; the argument of `of` counts them from outside.
abbrev pub inward : {A : Type 0} → (ℕ → A) → ℕ → List A
inward of zero = []
inward of (suc d) = of d ∷ inward of d

-- What is kept of fixpoint d, counted from outside.
abbrev pub kept_at : List Kept → ℕ → Kept
kept_at bs d = get_or bs d (record { number = 0; place = 0 })

-- A fixpoint of the scope, counted from outside: those with a next between them and here are the outer ones.
abbrev pub enclosing_at : Scope → ℕ → Binder
enclosing_at x d = record { place = (kept_at x.binders d).place; guarded = ltb d x.guarded }

-- The enclosing fixpoints.
abbrev pub enclosing : Scope → Enclosing
enclosing x = inward (enclosing_at x) x.depth

-- The numbers of the enclosing fixpoints, innermost first.
abbrev pub binders : Scope → List ℕ
binders x = inward (λ d. (kept_at x.binders d).number) x.depth

-- The counts are within the limits of MEANING 1.4.
pub record Limits (h : Head) : Type 0 where
  pub commands : h.count ≤ 48
  pub ors : h.ors ≤ 12
  pub nexts : h.nexts ≤ 12
  pub fixpoints : h.fixpoints ≤ 7

-- Reading went from h to x.
pub record Further (h x : Head) : Type 0 where
  pub later : h.at ≤ x.at
  pub grown : h.count ≤ x.count
  pub more : h.fixpoints ≤ x.fixpoints
  pub limits : Limits x

-- Where reading stands behind the byte at h.
abbrev pub behind : Head → Head
behind h = record { at = h.at + 1; count = h.count; ors = h.ors; nexts = h.nexts; fixpoints = h.fixpoints }

-- For the opcode op the answer to the questions 3 and 4 is yes.
pub record RoomFor (op : code.Opcode) (h : Head) : Type 0 where
  pub limits : Limits h
  pub few : h.count < 48
  pub allowed : (s : List ℕ) → within (named op) (point s h) ≡ true

-- The opcode op counts as read: h became x.
pub record OperatorCounted (op : code.Opcode) (h x : Head) : Type 0 where
  pub stands : (s : List ℕ) → point s x ≡ counted (named op) (point s h)
  pub at : x.at ≡ h.at
  pub count : x.count ≡ h.count + 1
  pub fixpoints : x.fixpoints ≡ h.fixpoints + deeper (named op)
  pub further : Further h x

-- Reading may go on at h within the scope.
pub record ScopeReady (h : Head) (scope : Scope) : Type 0 where
  pub limits : Limits h
  pub depth : scope.depth ≤ h.fixpoints
  pub guarded : scope.guarded ≤ scope.depth

-- The operands of subformula e, of opcode op, may be read: there is room for one more enclosing fixpoint where e is one.
pub record InsideReady (scope : Scope) (e : ℕ) (op : code.Opcode) : Type 0 where
  pub number : e < 48
  pub guarded : scope.guarded ≤ scope.depth
  pub room : scope.depth + deeper (named op) ≤ 7

-- The rows have the same bytes of subformula e.
pub record RowKept (p q : List ℕ) (e : ℕ) : Type 0 where
  pub command : opcode_at q e ≡ opcode_at p e
  pub operand : operand_at q e ≡ operand_at p e
  pub sized : length_at q e ≡ length_at p e

-- The rows q are p, but for subformula e, which is written.
pub record RowPlaced (p : List ℕ) (e op argument n : ℕ) (q : List ℕ) : Type 0 where
  pub command : opcode_at q e ≡ op
  pub operand : operand_at q e ≡ argument
  pub sized : length_at q e ≡ n
  pub others : (k : ℕ) → k < 48 → (k ≡ e → ⊥) → RowKept p q k
  pub long : length q ≡ length p

-- The rows list n subformulas from e on: xs are their operators, ys their lengths.
pub record RowsList (e n : ℕ) (xs : Operators) (ys : List ℕ) (rows : List ℕ) : Type 0 where
  pub commands : map (opcode_at rows) (range e n) ≡ map opcode_byte xs
  pub operands : map (operand_at rows) (range e n) ≡ map operand_of xs
  pub lengths : lengths_of rows e n ≡ ys

-- The rows q list these subformulas, and have all others as p has them.
pub record RowsWritten (e n : ℕ) (xs : Operators) (ys : List ℕ) (p q : List ℕ) : Type 0 where
  pub listed : RowsList e n xs ys q
  pub before : (k : ℕ) → k < e → RowKept p q k
  pub behind : (k : ℕ) → e + n ≤ k → k < 48 → RowKept p q k
  pub long : length q ≡ length p

-- The same of the subformulas of f.
abbrev pub FormulaWritten : ℕ → List ℕ → Formula → List ℕ → List ℕ → Type 0
FormulaWritten e binders f p q = RowsWritten e (size f) (table_from e binders f) (lengths f) p q

-- The definition's answer is a formula, and the rows p became q, in which it is written with subformula e as its first; reading went from
-- h to x.
pub record Got (s : List ℕ) (e : ℕ) (h : Head) (binders p : List ℕ) (answer : Read Formula) (q : List ℕ) (x : Head) : Type 0 where
  pub got : Formula
  pub is : answer ≡ Read.got got (point s x)
  pub count : x.count ≡ e + size got
  pub further : Further h x
  pub written : FormulaWritten e binders got p q

-- The code's answer is the definition's: its refusal, or its formula in the rows.
abbrev pub Agrees : List ℕ → ℕ → Head → (binders p : List ℕ) → Read Formula → (q : List ℕ) → Result Head Refusal → Type 0
Agrees s e h binders p answer q r = MatchResult r (Got s e h binders p answer q) (λ why. answer ≡ Read.refused why)

-- A command that begins at h is read with all its operands. The number k is any that reaches the end of the bytes.
abbrev pub Command : List ℕ → Head → (p : List ℕ) → Scope → (q : List ℕ) → Result Head Refusal → Type 0
Command s h p scope q r =
    (k : ℕ) → length s ≤ h.at + k → Agrees s h.count h (binders scope) p (formula k (enclosing scope) (point s h)) q r

-- The byte b stands at h, and reading stands at x behind it.
pub record Taken (s : List ℕ) (h : Head) (missing : Fault) (b : ℕ) (x : Head) : Type 0 where
  pub inside : h.at < length s
  pub is : byte missing (point s h) ≡ Read.got b (point s x)
  pub head : x ≡ behind h

-- The questions 1 and 5: that, or the refusal.
abbrev pub Takes : List ℕ → Head → Fault → Result (ℕ × Head) Refusal → Type 0
Takes s h missing r = MatchResult r (λ t. Taken s h missing t.0 t.1) (λ why. byte missing (point s h) ≡ Read.refused why)

-- The opcode op stands at h, the questions 1 to 4 are answered, and reading stands at x behind it: what is left of reading the
-- formula are its operands.
pub record Opened (s : List ℕ) (h : Head) (op : code.Opcode) (x : Head) : Type 0 where
  pub inside : h.at < length s
  pub at : x.at ≡ h.at + 1
  pub count : x.count ≡ h.count + 1
  pub fixpoints : x.fixpoints ≡ h.fixpoints + deeper (named op)
  pub further : Further h x
  pub left : (k : ℕ) (scope : Enclosing) → formula (suc k) scope (point s h) ≡ operands (formula k) scope (named op) (point s x)

-- The formula that begins at h is refused, within whatever scope.
abbrev pub Refuses : List ℕ → Head → Refusal → Type 0
Refuses s h why =
    (k : ℕ) (scope : Enclosing) → length s ≤ h.at + k → formula k scope (point s h) ≡ Read.refused why

-- One of the two, by what was found at h: an opcode, and where reading stands behind it, or the refusal.
abbrev pub Opening : List ℕ → Head → Result (code.Opcode × Head) Refusal → Type 0
Opening s h r = MatchResult r (λ t. Opened s h t.0 t.1) (Refuses s h)

-- The definition's answer about what stands at h, behind the opcode of a signal or a variable. It is no operand formula, so the answer
-- depends on no reader of these.
abbrev pub behind_opcode : List ℕ → Head → Enclosing → Opcode → (Enclosing → Reader Formula) → Read Formula
behind_opcode s h scope op self = operands self scope op (point s h)

-- A signal stands at h, and reading stands at x behind it.
pub record Signalled (s : List ℕ) (h : Head) (signal : ℕ) (x : Head) : Type 0 where
  pub is : (present : Bool) (scope : Enclosing) (self : Enclosing → Reader Formula) →
      behind_opcode s h scope (Opcode.signal present) self ≡ Read.got (Formula.leaf (Leaf.signal present signal)) (point s x)
  pub count : x.count ≡ h.count
  pub further : Further h x

-- The questions 5 and 6: that, or the refusal.
abbrev pub Signals : List ℕ → Head → Result (ℕ × Head) Refusal → Type 0
Signals s h r = MatchResult r (λ t. Signalled s h t.0 t.1) (λ why.
    (present : Bool) (scope : Enclosing) (self : Enclosing → Reader Formula) →
    behind_opcode s h scope (Opcode.signal present) self ≡ Read.refused why)

-- A depth stands at h that names the fixpoint with this number, with a next between it and here, and reading stands at x behind it.
pub record Bound (s : List ℕ) (h : Head) (scope : Scope) (binder : ℕ) (x : Head) : Type 0 where
  pub depth : ℕ
  pub is : (self : Enclosing → Reader Formula) →
      behind_opcode s h (enclosing scope) Opcode.variable self ≡ Read.got (Formula.variable depth) (point s x)
  pub named : get_or (binders scope) depth 0 ≡ binder
  pub count : x.count ≡ h.count
  pub further : Further h x

-- The questions 5, 7 and 8: that, or the refusal.
abbrev pub Names : List ℕ → Head → Scope → Result (ℕ × Head) Refusal → Type 0
Names s h scope r = MatchResult r (λ t. Bound s h scope t.0 t.1) (λ why.
    (self : Enclosing → Reader Formula) → behind_opcode s h (enclosing scope) Opcode.variable self ≡ Read.refused why)

-- The subformulas of f are subformula e, with this opcode and argument, and then n others: xs are their operators, ys their lengths.
pub record Shape (e : ℕ) (binders : List ℕ) (op : Opcode) (argument : ℕ) (f : Formula) (n : ℕ) (xs : Operators) (ys : List ℕ) : Type 0
  where
    pub rows : size f ≡ 1 + n
    pub operator : Operator
    pub command : opcode_byte operator ≡ byte_of op
    pub operand : operand_of operator ≡ argument
    pub operators : table_from e binders f ≡ operator ∷ xs
    pub lengths : lengths f ≡ size f ∷ ys

-- Reading stands at h behind subformula e.
pub record ReadBehind (e : ℕ) (h : Head) : Type 0 where
  pub after : e < h.count
  pub few : h.count ≤ 48

-- Subformula e, read up to h, is written: the rows p became q.
pub record Written (h : Head) (p : List ℕ) (e : ℕ) (op : code.Opcode) (argument : ℕ) (q : List ℕ) : Type 0 where
  pub placed : RowPlaced p e (byte_of (named op)) argument (h.count - e) q

-- The fixpoints around the operands of an operator whose byte is at a place,
abbrev pub within_operator : Opcode → (place : ℕ) → Enclosing → Enclosing
within_operator Opcode.unknown place scope = scope
within_operator (Opcode.constant b) place scope = scope
within_operator (Opcode.signal present) place scope = scope
within_operator Opcode.variable place scope = scope
within_operator (Opcode.pair o) place scope = scope
within_operator Opcode.next place scope = map behind_next scope
within_operator (Opcode.fix g) place scope = entered place ∷ scope

-- and their numbers, where the operator is subformula e.
abbrev pub numbers_within : Opcode → (e : ℕ) → List ℕ → List ℕ
numbers_within Opcode.unknown e binders = binders
numbers_within (Opcode.constant b) e binders = binders
numbers_within (Opcode.signal present) e binders = binders
numbers_within Opcode.variable e binders = binders
numbers_within (Opcode.pair o) e binders = binders
numbers_within Opcode.next e binders = binders
numbers_within (Opcode.fix g) e binders = e ∷ binders

-- The scope x is that of the operands of subformula e, whose byte is at a place.
pub record OperandScope (scope : Scope) (e place : ℕ) (op : code.Opcode) (x : Scope) : Type 0 where
  pub fixpoints : enclosing x ≡ within_operator (named op) place (enclosing scope)
  pub numbers : binders x ≡ numbers_within (named op) e (binders scope)
  pub guarded : x.guarded ≤ x.depth
  pub depth : x.depth ≡ scope.depth + deeper (named op)

-- The answer r is the definition's of reading from the byte at a place.
abbrev pub ReadFrom : List ℕ → ℕ → Result Table Refusal → Type 0
ReadFrom s at r = r ≡ stored (reading_from s at)
