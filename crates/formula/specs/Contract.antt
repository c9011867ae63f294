-- What reading hands back, by the definition's outcome: a refusal, or a table and every byte of it. Assumes nothing.
use Rattle.std.specs.Prelude.{ℕ, ◌≤◌, ◌<◌, length, replicate, Result, Ok, Err}
use Rattle.formula.specs.Table.{Entries}
use Rattle.formula.specs.Reading.{Reading}
use Rattle.formula.specs.Rows.{encoded}
use Rattle.formula.specs.declared.Table.{Table}
use Rattle.formula.specs.declared.Refusal.{Refusal}

-- The table that stands where there is none: what has room for one, and has none, holds this.
abbrev pub no_table : Table
no_table = record { count = 0; rows = replicate {A = ℕ} 144 0 }

-- The table of an accepted formula has 1 to 48 subformulas (MEANING 1.4, question 3).
pub record Filled (t : Table) : Type 0 where
  pub some : 0 < t.count
  pub few : t.count ≤ 48

-- All that reading hands back: the refusal and nothing with it, or the table whose rows hold the subformulas and are zero behind them.
abbrev pub stored : Reading Entries → Result Table Refusal
stored (Reading.refused why) = Err why
stored (Reading.accepted x) = Ok (record { count = length x.operators; rows = encoded x })
