-- The operators of the code's tableau, as the definitions have them. Assumes nothing.
use Rattle.std.specs.Prelude.{List, ℕ}
use Rattle.formula.specs.Table.{Table}
use Rattle.tableau.specs.Inner.{table_of}
use Rattle.tableau.specs.declared.formed.Tableau.{Tableau}

-- the table of a tableau's subformulas
abbrev pub operators : Tableau → Table
operators s = table_of s.table.rows s.table.count

-- What is said of rows and their count, said of those of a tableau.
abbrev pub on : {A : Type 1} → Tableau → (List ℕ → ℕ → A) → A
on s said = said s.table.rows s.table.count
