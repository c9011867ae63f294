-- `Tableau::ors` counts the subformulas that are ors.
use Rattle.std.proofs.Common.{◌≡◌, Bool, true, false, cond, ℕ, zero, suc, ◌+◌, List, ◌∷◌, length, filter, refl, ap, ◌∙◌, arith, rules}
use Rattle.std.proofs.Common.{tests, add-one}
use Rattle.std.specs.List.{range_with_len}
use Rattle.std.proofs.lemmas.Iterator.{YieldsList-from_range}
use Rattle.std.proofs.lemmas.Iterator.Consumers.{YieldsList-from_filter, YieldsList-at, count_from_yields_List}
use Rattle.formula.specs.Table.{is_or}
use Rattle.formula.specs.Rows.{operator_at, operators_of}
use Rattle.tableau.specs.Transition.{ors}
use Rattle.tableau.proofs.formed.Tableau.ors.Goals as goal

-- the definition counts by recursion
counted : (rows : List ℕ) (i n : ℕ) → length (filter (λ e. is_or (operator_at rows e)) (range_with_len i n)) ≡ ors (operators_of rows i n)
counted rows i zero = refl
counted rows i (suc n) =
    by (is_or (operator_at rows i)) _ (ap (λ j. length (kept (range_with_len j n))) (add-one i) ∙ counted rows (suc i) n)
  where
    kept : List ℕ → List ℕ
    kept = filter (λ e. is_or (operator_at rows e))

    by : (b : Bool) (xs : List ℕ) {m : ℕ} → length xs ≡ m → length (cond b (i ∷ xs) xs) ≡ cond b 1 0 + m
    by true xs e = omega (arith, e)
    by false xs e = omega (arith, e)

pub returns : goal.returns
returns c =
    count_from_yields_List c.filter.result _ c.count.ensures.ran
    (YieldsList-from_filter _ (λ e. is_or (operator_at c.args.self.now.table.rows e)) (YieldsList-at c.filter.ensures.source
    (YieldsList-from_range 0 c.args.self.now.table.count c.args.self.now.table.count refl (omega arith))) c.filter.ensures.closure
    (λ x b q k. search (rules, tests)))
    ∙ counted c.args.self.now.table.rows 0 c.args.self.now.table.count
