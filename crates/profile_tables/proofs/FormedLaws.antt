-- The table of a formula that reading accepts is formed: at most seven fixpoints, moves that stay inside, operands of next right after
-- their operator. Read off the shape of its table and its limits. Assumes nothing.
use mathlib.Core.Path.{◌≡◌, refl, ap}
use mathlib.Core.Logic.{inl, inr}
use mathlib.Core.Bool.{Bool, true, false}
use mathlib.Core.List.Memᴰ
use mathlib.Core.List.{List, [], ◌∷◌, Memᴰ}
use Prim.Native.Nat.{ℕ, suc, ◌≤◌, ◌<◌}
use native.Mathlib.Omega.{arith}
use native.Mathlib.Decide.{dec_lt}
use lib.ListN.{length, get_or-eq_default}
use Rattle.formula.specs.Formula.{Leaf, Formula, size}
use Rattle.formula.specs.Table.{Operator, Table, operator, table, ends_from, is_fix}
use Rattle.formula.specs.Reading.{Reading, parse}
use Rattle.formula.specs.Occurrence.{Guarded, Ranged}
use Rattle.formula.proofs.Limits.{fixpoints, how_many, table-fixpoints, parse-limited}
use Rattle.formula.proofs.Guarded.{parse-guarded}
use Rattle.formula.proofs.WellFormed.{end_in, Operands, Shaped, Single, each_shaped, table-size}
use Rattle.tableau.specs.Saturation.{moves}
use Rattle.tableau.proofs.TransitionLaws.{next_is}
use Rattle.profile_tables.proofs.RankLaws.{fixes-from}
use Rattle.profile_tables.proofs.TableLaws.{TableFormed}

-- the fixpoints, counted
fixes-count : (t : Table) (e : ℕ) → length (fixes-from e t) ≡ how_many is_fix t
fixes-count [] e = refl
fixes-count (Operator.leaf l ∷ t) e = fixes-count t (suc e)
fixes-count (Operator.variable m ∷ t) e = fixes-count t (suc e)
fixes-count (Operator.pair o l r ∷ t) e = fixes-count t (suc e)
fixes-count (Operator.next g ∷ t) e = fixes-count t (suc e)
fixes-count (Operator.fix g l ∷ t) e = ap suc (fixes-count t (suc e))

module _ (f : Formula) (guarded : Guarded [] f) (ranged : Ranged f) where
  abbrev end : ℕ → ℕ
  end = end_in (ends_from 0 f)

  abbrev MovesWithin : ℕ → Operator → Type 0
  MovesWithin e o = Operands (operator (table f)) end (size f) e o

  shaped : (e : ℕ) → e < size f → Shaped (operator (table f)) end (size f) e
  shaped = each_shaped (operator (table f)) end f (λ e i. refl) (λ e i. refl) guarded ranged

  -- behind the table there is nothing
  in_table : (e : ℕ) → (operator (table f) e ≡ Operator.leaf (Leaf.constant false) → ⊥) → e < size f
  in_table e n =
      elim (dec_lt e (size f)) [
        | yes h ↦ h
        | no h ↦ absurd (n (get_or-eq_default (table f) (Operator.leaf (Leaf.constant false)) (omega (arith, table-size f))))
      ]

  moves-stay : (e m : ℕ) (b : Bool) (o : Operator) → e < size f → end e ≤ size f → MovesWithin e o → Memᴰ m (moves o b) → m < size f
  moves-stay e m b (Operator.leaf l) h k s i = absurd (Memᴰ.not-nil i)
  moves-stay e m b (Operator.variable n) h k s i = omega (arith, s.before, Memᴰ.eq_of_singleton i)
  moves-stay e m true (Operator.pair true l r) h k s i = omega (arith, s.inside, Memᴰ.eq_of_singleton i)
  moves-stay e m false (Operator.pair true l r) h k s i = omega (arith, s.order, s.inside, Memᴰ.eq_of_singleton i)
  moves-stay e m b (Operator.pair false l r) h k s i =
      elim (Memᴰ.cases_cons i) [
        | inl q ↦ omega (arith, s.order, s.inside)
        | inr j ↦ omega (arith, s.inside, Memᴰ.eq_of_singleton j)
      ]
  moves-stay e m b (Operator.next g) h k s i = absurd (Memᴰ.not-nil i)
  moves-stay e m b (Operator.fix g l) h k s i = omega (arith, s.inside, Memᴰ.eq_of_singleton i)

  -- Theorem: the table is formed.
  pub formed : fixpoints f ≤ 7 → TableFormed (table f)
  formed few =
      record {
        few = omega (arith, fixes-count (table f) 0, table-fixpoints f);
        ranged = λ e m b i.
            let h = in_table e (λ q. Memᴰ.not-nil (rw q at i)) in
            let s = shaped e h in
            omega (arith, table-size f, moves-stay e m b (operator (table f) e) h s.inside s.operands i);
        after = λ e g i.
            let s = shaped e (in_table e (λ q. Memᴰ.not-nil (rw q at i))) in
            let o : Single (operator (table f)) end (size f) e g = rw (next_is (operator (table f) e) g i) at s.operands in
            (omega (arith, o.first), omega (arith, o.inside, s.inside, table-size f));
      }

pub parse-formed : (bytes : List ℕ) (f : Formula) → parse bytes ≡ Reading.accepted f → TableFormed (table f)
parse-formed bytes f p =
    let l = parse-limited bytes f p in formed f (parse-guarded bytes f p) l.signals l.fixpoints
