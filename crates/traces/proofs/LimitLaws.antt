-- The rows of an accepted formula have a subformula behind each next, since their operators are shaped as the formula's, and few enough
-- next and fixpoints: reading's limits, for the definition's lists. Assumes nothing.
use Rattle.std.proofs.Common.{◌≡◌, refl, sym, ap, true, true≢false, List, [], ◌∷◌, ℕ, suc, ◌+◌, ◌≤◌, ◌<◌, arith, length}
use Rattle.formula.specs.Table.{Operator, Table as Operators, is_next, is_fix}
use Rattle.formula.specs.Rows.{operator_at, end_at}
use Rattle.formula.specs.declared.Table.{Table}
use Rattle.formula.proofs.Limits.{how_many, table-nexts, table-fixpoints, parse-limited}
use Rattle.formula.proofs.WellFormed.{Operands}
use Rattle.formula.proofs.RowLaws.{HoldsFormula, held_shaped}
use Rattle.tableau.specs.Inner.{table_of}
use Rattle.tableau.proofs.NodeLaws.{operands-count}
use Rattle.profile_tables.specs.Marks.{leasts}
use Rattle.traces.specs.Inner.{RowsLimited}

-- one Bool for each fixpoint
leasts_are : (t : Operators) → length (leasts t) ≡ how_many is_fix t
leasts_are [] = refl
leasts_are (Operator.leaf l ∷ t) = leasts_are t
leasts_are (Operator.variable m ∷ t) = leasts_are t
leasts_are (Operator.pair o l r ∷ t) = leasts_are t
leasts_are (Operator.next g ∷ t) = leasts_are t
leasts_are (Operator.fix g l ∷ t) = ap suc (leasts_are t)

-- the operand of a next is the subformula behind it
next-behind : (operator : ℕ → Operator) (end : ℕ → ℕ) (count e : ℕ) (o : Operator) → end e ≤ count → Operands operator end count e o
    → is_next o ≡ true → e + 1 < count
next-behind operator end count e (Operator.leaf l) h x q = absurd (true≢false (sym q))
next-behind operator end count e (Operator.variable m) h x q = absurd (true≢false (sym q))
next-behind operator end count e (Operator.pair o l r) h x q = absurd (true≢false (sym q))
next-behind operator end count e (Operator.next g) h x q = omega (arith, x.first, x.inside)
next-behind operator end count e (Operator.fix g l) h x q = absurd (true≢false (sym q))

module _ {bytes : List ℕ} {t : Table} (h : HoldsFormula bytes t) where
  pub held-limited : RowsLimited t.rows t.count
  held-limited =
      let limits = parse-limited bytes h.formula h.parsed in
      record {
        behind = λ e l.
            let s = held_shaped h e l in
            next-behind (operator_at t.rows) (end_at t.rows) t.count e (operator_at t.rows e) s.inside s.operands;
        few_nexts =
            omega (
              arith,
              operands-count (table_of t.rows t.count),
              ap (how_many is_next) h.operators,
              table-nexts h.formula,
              limits.nexts,
            );
        few_fixes = omega (
          arith,
          leasts_are (table_of t.rows t.count),
          ap (how_many is_fix) h.operators,
          table-fixpoints h.formula,
          limits.fixpoints,
        );
      }
