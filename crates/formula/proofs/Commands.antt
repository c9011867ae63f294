-- How reading moves the head: one byte further, and one command more, which counts as an or, a next or a fixpoint or as none of
-- them. Assumes nothing.
use Rattle.std.proofs.Common.{◌≡◌, refl, Bool, true, false, cond, List, ℕ, ◌+◌}
use Rattle.formula.specs.Reading.{Opcode, Head, one_more, counted}

-- the head one byte further
abbrev pub behind : Head → List ℕ → Head
behind h l =
    record { at = h.at + 1; left = l; commands = h.commands; ors = h.ors; nexts = h.nexts; fixpoints = h.fixpoints }

-- whether a command is an or, a next, a fixpoint
pub record Sort : Type 0 where
  pub or : Bool
  pub next : Bool
  pub fix : Bool

abbrev sort_of : Bool → Bool → Bool → Sort
sort_of o n f = record { or = o; next = n; fix = f }

abbrev pub sort : Opcode → Sort
sort Opcode.unknown = sort_of false false false
sort (Opcode.constant b) = sort_of false false false
sort (Opcode.signal b) = sort_of false false false
sort Opcode.variable = sort_of false false false
sort (Opcode.pair o) = sort_of o false false
sort Opcode.next = sort_of false true false
sort (Opcode.fix g) = sort_of false false true

abbrev pub or_command : Opcode → Bool
or_command op = (sort op).or

abbrev pub next-command : Opcode → Bool
next-command op = (sort op).next

abbrev pub fix-command : Opcode → Bool
fix-command op = (sort op).fix

abbrev pub one_if : Bool → ℕ
one_if b = cond b 1 0

pub counted_is : (op : Opcode) (h : Head) → counted op h ≡ one_more (one_if (or_command op)) (one_if (next-command op))
    (one_if (fix-command op)) h
counted_is Opcode.unknown h = refl
counted_is (Opcode.constant b) h = refl
counted_is (Opcode.signal b) h = refl
counted_is Opcode.variable h = refl
counted_is (Opcode.pair true) h = refl
counted_is (Opcode.pair false) h = refl
counted_is Opcode.next h = refl
counted_is (Opcode.fix g) h = refl
