-- One entry of a formula as a number. include/yuktrob.h says the same in C. Assumes nothing.
use Rattle.std.specs.Prelude.{cond, ℕ, ◌+◌, ◌*◌, ltb, length, get_or}
use Rattle.formula.specs.Formula.{Leaf}
use Rattle.formula.specs.Table.{Operator, Entries, operator}
use Rattle.formula.specs.Reading.{Reading}
use Rattle.formula.specs.Rows.{opcode_byte}
use Rattle.yuktrob_c.specs.Numbers.{number, refusal_number}

-- the signal, the variable's fixpoint, or the second operand; 0 for a command without one. A first operand is the entry after its command.
abbrev pub argument_of : Operator → ℕ
argument_of (Operator.leaf (Leaf.constant b)) = 0
argument_of (Operator.leaf (Leaf.signal present j)) = j
argument_of (Operator.variable m) = m
argument_of (Operator.pair o l r) = r
argument_of (Operator.next g) = 0
argument_of (Operator.fix g b) = 0

-- the command, its argument and the number after its last entry, with 8 bits each, the first lowest
abbrev pub packed : Operator → (end : ℕ) → ℕ
packed o end = opcode_byte o + 256 * (argument_of o + 256 * end)

-- A refusal of reading as it is; an entry that is not there is 0, which is no command.
abbrev pub entry_number : Reading Entries → (e : ℕ) → ℕ
entry_number (Reading.refused why) e = refusal_number why
entry_number (Reading.accepted x) e =
    number 0 (cond (ltb e (length x.operators)) (packed (operator x.operators e) (e + get_or x.lengths e 0)) 0)
