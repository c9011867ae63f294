-- The rows of an accepted formula are what the code asks for: reading's laws on operators and on limits say so. Assumes nothing.
use Rattle.std.proofs.Common.{◌≡◌, refl, ap, Bool, true, false, cond, List, [], ◌∷◌, ℕ, ◌+◌, arith, length}
use Rattle.base.specs.Lists.{filter}
use Rattle.formula.specs.Table.{Table as Operators, is_or}
use Rattle.formula.specs.declared.Table.{Table}
use Rattle.formula.proofs.Limits.{how_many, table-ors, parse-limited}
use Rattle.formula.proofs.RowLaws.{HoldsFormula, held-some, held-few}
use Rattle.formula.proofs.FitLaws.{held_fits}
use Rattle.tableau.specs.Transition.{ors}
use Rattle.tableau.specs.Inner.{Formed, table_of}

-- the two counts of or operators
ors_are : (t : Operators) → ors t ≡ how_many is_or t
ors_are [] = refl
ors_are (o ∷ t) = rw (ors_are t) (by (is_or o))
  where
    by : (b : Bool) → cond b 1 0 + how_many is_or t ≡ length (cond b (o ∷ filter is_or t) (filter is_or t))
    by true = omega arith
    by false = omega arith

module _ {bytes : List ℕ} {t : Table} (h : HoldsFormula bytes t) where
  pub held-formed : Formed t.rows t.count
  held-formed = record {
    some = held-some h;
    few = held-few h;
    fits = held_fits h;
    few_ors = omega (
      arith,
      ors_are (table_of t.rows t.count),
      ap (how_many is_or) h.operators,
      table-ors h.formula,
      (parse-limited bytes h.formula h.parsed).ors,
    );
  }
