-- What the rows of a table hold: the decoding through which contracts speak of the definitions, and the encoding that settles every byte.
-- Assumes nothing.
use Rattle.std.specs.Prelude.{List, ◌++◌, map, ℕ, ◌+◌, get_or, Result, Ok, Err}
use Rattle.base.specs.Lists.{range}
use Rattle.formula.specs.Formula.{Leaf}
use Rattle.formula.specs.Table.{Operator, Table as Operators, Entries}
use Rattle.formula.specs.Reading.{Opcode, opcode, byte_of, Reading}
use Rattle.formula.specs.declared.Table.{Table}
use Rattle.formula.specs.declared.Refusal.{Refusal}

-- the operator of subformula e by its opcode, what its operand byte stands for and the number of its right operand; its first operand is
-- e + 1. A byte that is no opcode decodes to what no table has, a variable that is its own binder.
abbrev pub operator_of : Opcode → (operand right e : ℕ) → Operator
operator_of Opcode.unknown a r e = Operator.variable e
operator_of (Opcode.constant b) a r e = Operator.leaf (Leaf.constant b)
operator_of (Opcode.signal present) a r e = Operator.leaf (Leaf.signal present a)
operator_of Opcode.variable a r e = Operator.variable a
operator_of (Opcode.pair o) a r e = Operator.pair o (e + 1) r
operator_of Opcode.next a r e = Operator.next (e + 1)
operator_of (Opcode.fix g) a r e = Operator.fix g (e + 1)

-- The rows have three bytes of subformula e. Byte e is its opcode,
abbrev pub opcode_at : List ℕ → ℕ → ℕ
opcode_at rows e = get_or rows e 0

-- byte 48 + e what its operand byte stands for, a signal or a variable's binder,
abbrev pub operand_at : List ℕ → ℕ → ℕ
operand_at rows e = get_or rows (48 + e) 0

-- byte 96 + e its length.
abbrev pub length_at : List ℕ → ℕ → ℕ
length_at rows e = get_or rows (96 + e) 0

-- the number after the last subformula inside e
abbrev pub end_at : List ℕ → ℕ → ℕ
end_at rows e = e + length_at rows e

-- the operator of subformula e: a right operand begins where the left one, e + 1, ends
abbrev pub operator_at : List ℕ → ℕ → Operator
operator_at rows e = operator_of (opcode (opcode_at rows e)) (operand_at rows e) (end_at rows (e + 1)) e

-- the n subformulas from e on
abbrev pub operators_of : List ℕ → ℕ → ℕ → Operators
operators_of rows e n = map (operator_at rows) (range e n)

-- their lengths
abbrev pub lengths_of : List ℕ → ℕ → ℕ → List ℕ
lengths_of rows e n = map (length_at rows) (range e n)

-- their ends
abbrev pub ends_of : List ℕ → ℕ → ℕ → List ℕ
ends_of rows e n = map (end_at rows) (range e n)

-- all that a table holds
abbrev pub entries_of : Table → Entries
entries_of t = record { operators = operators_of t.rows 0 t.count; lengths = lengths_of t.rows 0 t.count }

-- the byte of an operator's opcode: MEANING 1.1
abbrev pub opcode_byte : Operator → ℕ
opcode_byte (Operator.leaf (Leaf.constant b)) = byte_of (Opcode.constant b)
opcode_byte (Operator.leaf (Leaf.signal present j)) = byte_of (Opcode.signal present)
opcode_byte (Operator.variable m) = byte_of Opcode.variable
opcode_byte (Operator.pair o l r) = byte_of (Opcode.pair o)
opcode_byte (Operator.next g) = byte_of Opcode.next
opcode_byte (Operator.fix g b) = byte_of (Opcode.fix g)

-- what its operand byte stands for; 0 where it has none
abbrev pub operand_of : Operator → ℕ
operand_of (Operator.leaf (Leaf.constant b)) = 0
operand_of (Operator.leaf (Leaf.signal present j)) = j
operand_of (Operator.variable m) = m
operand_of (Operator.pair o l r) = 0
operand_of (Operator.next g) = 0
operand_of (Operator.fix g b) = 0

-- 48 bytes: the given ones, and zeros behind them
unfoldable pub column : List ℕ → List ℕ
column bytes = map (λ e. get_or bytes e 0) (range 0 48)

-- the rows that hold the subformulas of a formula
unfoldable pub encoded : Entries → List ℕ
encoded x = column (map opcode_byte x.operators) ++ (column (map operand_of x.operators) ++ column x.lengths)

-- the definition's outcome for what reading hands back: the refusal as it is, or the subformulas
abbrev pub reading_of : Result Table Refusal → Reading Entries
reading_of (Ok t) = Reading.accepted (entries_of t)
reading_of (Err why) = Reading.refused why
