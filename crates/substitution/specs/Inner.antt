-- What the functions below the substitution promise one another. Assumes nothing.
use Rattle.std.specs.Prelude.{◌≡◌, List, ℕ, ◌≤◌, length, take}
use Rattle.formula.specs.Reading.{Reading, reading}
use Rattle.formula.specs.Rows.{entries_of}
use Rattle.formula.specs.declared.Table.{Table}
use Rattle.context.specs.Bytes.{spliced}
use Rattle.substitution.specs.declared.Span.{Span}
use Rattle.substitution.specs.declared.Prefix.{Prefix}
use Rattle.substitution.specs.Contract.{table_of, padded}

-- Reading accepts the bytes, and hands back this table.
pub record ReadAs (bytes : List ℕ) (t : Table) : Type 0 where
  pub is : reading bytes ≡ Reading.accepted (entries_of t)
  pub stored : t ≡ table_of (entries_of t)

-- the old bytes with others in place of those of a span
abbrev pub spliced_at : Span → (old new : List ℕ) → List ℕ
spliced_at c old new = spliced c.from c.to old new

-- A span within bytes of which reading can accept all.
pub record Spans (c : Span) (old new : List ℕ) : Type 0 where
  pub order : c.from ≤ c.to
  pub inside : c.to ≤ length old
  pub old_few : length old ≤ 96
  pub new_few : length new ≤ 96

-- So many bytes as reading looks at, the first 97 at most, and zeros behind them.
pub record Splices (bytes : List ℕ) (s : Prefix) : Type 0 where
  pub count : s.count ≡ length (take 97 bytes)
  pub is : s.bytes ≡ padded (take 97 bytes)
