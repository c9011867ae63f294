-- An entry's number: it has room in 64 bits, as the numbers in an operator of a table are small; and the operator and the end at a number
-- of the table are those of the definition's list. Assumes nothing.
use Rattle.std.proofs.Common.{Result, Ok, ◌≡◌, sym, ap, ◌∙◌, Bool, cond, List, map, ℕ, ◌+◌, ◌≤◌, ◌<◌, arith, length, get_or, lt-ltb, le-ltb}
use Rattle.base.specs.Lists.{range}
use Rattle.base.proofs.NumberLaws.{values_length, values_at}
use Rattle.formula.specs.Formula.{Leaf}
use Rattle.formula.specs.Table.{Operator, operator}
use Rattle.formula.specs.Reading.{Reading, reading}
use Rattle.formula.specs.Rows.{length_at, operator_at, end_at, operators_of, entries_of, reading_of}
use Rattle.formula.specs.Access.{Fits}
use Rattle.formula.specs.declared.Table.{Table}
use Rattle.formula.specs.declared.Refusal.{Refusal}
use Rattle.yuktrob_c.specs.Numbers.{number}
use Rattle.yuktrob_c.specs.Entry.{argument_of, packed, entry_number}

pub argument_fits : (o : Operator) → Fits 48 o → argument_of o < 48
argument_fits (Operator.leaf (Leaf.constant b)) f = omega arith
argument_fits (Operator.leaf (Leaf.signal present j)) f = omega arith
argument_fits (Operator.variable m) f = f
argument_fits (Operator.pair o l r) f = f.1
argument_fits (Operator.next g) f = omega arith
argument_fits (Operator.fix g b) f = omega arith

-- the number of an entry that is there or not
abbrev chosen : ℕ → Bool → ℕ
chosen there b = number 0 (cond b there 0)

module _ (t : Table) (e r : ℕ) where
  count : length (operators_of t.rows 0 t.count) ≡ t.count
  count = values_length (operator_at t.rows) 0 t.count

  pub entry-none : t.count ≤ e → r ≡ 0 → r ≡ entry_number (Reading.accepted (entries_of t)) e
  entry-none l q =
      q ∙ sym (ap (chosen _) (le-ltb e (length (operators_of t.rows 0 t.count)) (omega (arith, count))))

  -- the operator o and the end z are what the rows have at e
  pub entry-there : (o : Operator) (z : ℕ) → e < t.count → operator_at t.rows e ≡ o → z ≡ end_at t.rows e → r ≡ number 0 (packed o z)
      → r ≡ entry_number (Reading.accepted (entries_of t)) e
  entry-there o z l p q h =
      h
      ∙ sym (ap (λ (x : Operator). number 0 (packed x z)) (at (operator_at t.rows) _ ∙ p))
      ∙ sym (ap (λ (n : ℕ). number 0 (packed (operator (operators_of t.rows 0 t.count) e) n))
      (ap (λ (n : ℕ). e + n) (at (length_at t.rows) 0) ∙ sym q))
      ∙ sym (ap (chosen _) (lt-ltb e (length (operators_of t.rows 0 t.count)) (omega (arith, count))))
    where
      at : {A : Type 0} (g : ℕ → A) (d : A) → get_or (map g (range 0 t.count)) e d ≡ g e
      at g d = values_at g 0 t.count e d l ∙ ap g (omega arith)

-- what callers of the reader have of an accepted formula
pub reading-accepted : (bytes : List ℕ) (r : Result Table Refusal) {t : Table} → reading_of r ≡ reading bytes → r ≡ Ok t
    → Reading.accepted (entries_of t) ≡ reading bytes
reading-accepted bytes r is o = sym (ap reading_of o) ∙ is

pub accepted-count : (t : Table) → length (entries_of t).operators ≡ t.count
accepted-count t = values_length (operator_at t.rows) 0 t.count
