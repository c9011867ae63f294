-- Rows that hold the table of an accepted formula are well formed: what code that walks them may count on. Through the decoding the rows'
-- operators and ends are the formula's, so they have its shape (WellFormed). Assumes nothing.
use Rattle.std.proofs.Common.{◌≡◌, refl, sym, ap, ◌∙◌, List, [], map, ℕ, ◌+◌, ◌≤◌, ◌<◌, arith, length, get_or, ext_get_or}
use Rattle.std.proofs.Math.ListN.{length-map}
use Rattle.std.specs.Prelude.{Result, Ok, Err}
use Rattle.base.specs.Lists.{range}
use Rattle.base.proofs.ListLaws.{length-range}
use Rattle.base.proofs.NumberLaws.{values_at, values_length}
use Rattle.formula.specs.Formula.{Formula, size}
use Rattle.formula.specs.Table.{Entries, entries, table, ends_from, lengths}
use Rattle.formula.specs.Reading.{Reading, parse, with_entries, reading}
use Rattle.formula.specs.Rows.{length_at, operator_at, end_at, operators_of, lengths_of, ends_of}
use Rattle.formula.specs.Rows.{reading_of}
use Rattle.formula.specs.declared.Table.{Table}
use Rattle.formula.specs.declared.Refusal.{Refusal}
use Rattle.formula.specs.Occurrence.{Ranged, Guarded, nothing}
use Rattle.formula.proofs.Limits.{parse-limited}
use Rattle.formula.proofs.Guarded.{parse-guarded}
use Rattle.formula.proofs.WellFormed.{Shaped, table-size, length-ends, length-lengths, end_by_length, each_shaped}
use Rattle.formula.proofs.WellFormed.{operator_in, end_in}

-- rows that decode to a formula's table and ends
module _ (rows : List ℕ) (n : ℕ) (f : Formula) (operators : operators_of rows 0 n ≡ table f) (ends : ends_of rows 0 n ≡ ends_from 0 f) where
  pub rows-count : n ≡ size f
  rows-count = sym (length-map (range 0 n) (operator_at rows) ∙ length-range 0 n) ∙ ap length operators ∙ table-size f

  pub rows_shaped : Guarded [] f → Ranged f → (e : ℕ) → e < n → Shaped (operator_at rows) (end_at rows) n e
  rows_shaped g r e i =
      rw rows-count
      (each_shaped (operator_at rows) (end_at rows) f
      (λ e l. at (operator_at rows) nothing e (omega (arith, rows-count)) ∙ ap (λ t. operator_in t e) operators)
      (λ e l. at (end_at rows) 0 e (omega (arith, rows-count)) ∙ ap (λ t. end_in t e) ends) g r e (omega (arith, rows-count)))
    where
      at : {A : Type 0} (g : ℕ → A) (d : A) (e : ℕ) → e < n → g e ≡ get_or (map g (range 0 n)) e d
      at g d e l = sym (values_at g 0 n e d l ∙ ap g (omega arith))

-- the ends of rows that have a formula's lengths
ends_read : (rows : List ℕ) (n : ℕ) (f : Formula) → lengths_of rows 0 n ≡ lengths f → ends_of rows 0 n ≡ ends_from 0 f
ends_read rows n f same =
    let count : n ≡ size f = sym (values_length (length_at rows) 0 n) ∙ ap length same ∙ length-lengths f in
    ext_get_or 0 (ends_of rows 0 n) (ends_from 0 f) (values_length (end_at rows) 0 n ∙ count ∙ sym (length-ends 0 f)) (λ e i.
    let l : e < n = omega (arith, values_length (end_at rows) 0 n) in
    let q : 0 + e ≡ e = omega arith in
    let long : length_at rows e ≡ get_or (lengths f) e 0 =
    ap (length_at rows) (sym q) ∙ sym (values_at (length_at rows) 0 n e 0 l) ∙ ap (λ (t : List ℕ). get_or t e 0) same in
    values_at (end_at rows) 0 n e 0 l ∙ ap (end_at rows) q ∙ omega (arith, end_by_length 0 f e (omega arith)))

-- a table in memory that holds the formula that the bytes are
pub record HoldsFormula (bytes : List ℕ) (t : Table) : Type 0 where
  pub formula : Formula
  pub parsed : parse bytes ≡ Reading.accepted formula
  pub operators : operators_of t.rows 0 t.count ≡ table formula
  pub ends : ends_of t.rows 0 t.count ≡ ends_from 0 formula

-- what reading accepts is a formula, with its subformulas
pub reading-parsed : (bytes : List ℕ) {x : Entries} → reading bytes ≡ Reading.accepted x
    → (f : Formula) × (parse bytes ≡ Reading.accepted f) × (entries f ≡ x)
unfolding reading
reading-parsed bytes {x} e = by (parse bytes) refl e
  where
    by : (p : Reading Formula) → parse bytes ≡ p → with_entries p ≡ Reading.accepted x
        → (f : Formula) × (parse bytes ≡ Reading.accepted f) × (entries f ≡ x)
    by (Reading.refused why) q e = absurd (let z : ◌≡◌ {A = ℕ} 0 1 = cc in omega arith)
    by (Reading.accepted f) q e = (f, q, cc)

-- what it refuses is none
pub reading-unread : (bytes : List ℕ) {why : Refusal} → reading bytes ≡ Reading.refused why → parse bytes ≡ Reading.refused why
unfolding reading
reading-unread bytes {why} e = by (parse bytes) e
  where
    by : (x : Reading Formula) → with_entries x ≡ Reading.refused why → x ≡ Reading.refused why
    by (Reading.refused w) q = cc
    by (Reading.accepted f) q = absurd (let z : ◌≡◌ {A = ℕ} 0 1 = cc in omega arith)

-- the outcome of the code is the definition's
pub outcome-told : (bytes : List ℕ) (r : Result Table Refusal) {x : Result Table Refusal} → reading_of r ≡ reading bytes → r ≡ x
    → reading bytes ≡ reading_of x
outcome-told bytes r e a = sym e ∙ ap reading_of a

-- what a caller of reading has with a table
pub reading-held : (bytes : List ℕ) (r : Result Table Refusal) {t : Table} → reading_of r ≡ reading bytes → r ≡ Ok t → HoldsFormula bytes t
unfolding table
reading-held bytes r {t} e a =
    let p = reading-parsed bytes (outcome-told bytes r e a) in
    record {
      formula = p.0;
      parsed = p.1;
      operators = sym (ap (λ (x : Entries). x.operators) p.2);
      ends = ends_read t.rows t.count p.0 (sym (ap (λ (x : Entries). x.lengths) p.2));
    }

-- and after a refusal: what the code refuses the definition refuses
pub reading-refused : (bytes : List ℕ) (r : Result Table Refusal) {why : Refusal} → reading_of r ≡ reading bytes → r ≡ Err why
    → parse bytes ≡ Reading.refused why
reading-refused bytes r e a = reading-unread bytes (outcome-told bytes r e a)

module _ {bytes : List ℕ} {t : Table} (h : HoldsFormula bytes t) where
  pub held-count : t.count ≡ size h.formula
  held-count = rows-count t.rows t.count h.formula h.operators h.ends

  pub held_shaped : (e : ℕ) → e < t.count → Shaped (operator_at t.rows) (end_at t.rows) t.count e
  held_shaped =
      rows_shaped t.rows t.count h.formula h.operators h.ends (parse-guarded bytes h.formula h.parsed)
      (parse-limited bytes h.formula h.parsed).signals

  -- between 1 and 48 subformulas
  pub held-some : 0 < t.count
  held-some = omega (arith, held-count, (parse-limited bytes h.formula h.parsed).some)

  pub held-few : t.count ≤ 48
  held-few = omega (arith, held-count, (parse-limited bytes h.formula h.parsed).commands)
