-- A refusal that the reader hands out is the definition's, and has early places, as every refusal of reading has. Assumes nothing.
use Rattle.std.proofs.Common.{◌≡◌, List, ℕ, Result, Err}
use Rattle.formula.specs.Reading.{Reading, reading}
use Rattle.formula.specs.Rows.{reading_of}
use Rattle.formula.specs.declared.Refusal.{Refusal}
use Rattle.formula.specs.declared.Table.{Table}
use Rattle.formula.proofs.Early.{parse-early}
use Rattle.formula.proofs.RowLaws.{outcome-told, reading-refused}
use Rattle.yuktrob_c.specs.Numbers.{Early}

module _ (bytes : List ℕ) (r : Result Table Refusal) (is : reading_of r ≡ reading bytes) {why : Refusal} (refused : r ≡ Err why) where
  pub refused-reading : reading bytes ≡ Reading.refused why
  refused-reading = outcome-told bytes r is refused

  pub refused-early : Early why
  refused-early = parse-early bytes why (reading-refused bytes r is refused)
