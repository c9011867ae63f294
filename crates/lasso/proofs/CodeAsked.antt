-- The questions after reading, one after another, and the outcome of reading: the code's answers are those of the definition.
-- Assumes nothing.
use Rattle.std.proofs.Common.{◌≡◌, refl, sym, ap, subst, ◌∙◌, Bool, true, false, List, [], ◌++◌, map, ℕ, ◌+◌, ◌≤◌, ◌<◌, arith, T, length}
use Rattle.std.proofs.Common.{drop, get_or, Result, Ok, Err}
use Rattle.base.specs.Lists.{all, range}
use Rattle.base.proofs.BoolLaws.{to_T}
use Rattle.base.proofs.NumberLaws.{values_at}
use Rattle.base.proofs.AskLaws.{Asked, first_refusal, passed}
use Rattle.letters.specs.Alphabet.{in_alphabet}
use Rattle.formula.specs.Formula.{Formula, size}
use Rattle.formula.specs.Table.{Operator}
use Rattle.formula.specs.Reading.{Reading, parse, reading}
use Rattle.formula.specs.Rows.{operator_at, end_at, reading_of}
use Rattle.formula.specs.declared.Table.{Table}
use Rattle.formula.specs.declared.Refusal as reading
use Rattle.formula.specs.Occurrence.{nothing}
use Rattle.formula.proofs.Limits.{parse-limited}
use Rattle.formula.proofs.Guarded.{parse-guarded}
use Rattle.formula.proofs.WellFormed.{occurs_whole}
use Rattle.formula.proofs.RowLaws.{HoldsFormula as Read, held-count, reading-held, reading-refused}
use Rattle.lasso.specs.Lasso.{Lasso, over_alphabet, labelling, meets}
use Rattle.lasso.specs.Truth.{Truth, asked, after_reading, truth, written}
use Rattle.lasso.specs.Contract.{answer}
use Rattle.lasso.specs.Inner.{FormulaInRows, FormulaAt, TruthFound, Judged}
use Rattle.lasso.specs.declared.Refusal.{Refusal}
use Rattle.lasso.specs.declared.Refusal.TheVariants.{Unread, Stem, Positions, Words, Alphabet}
use Rattle.lasso.proofs.Consistent.{length-labelling}
use Rattle.lasso.proofs.TruthLaws.{From16, truth_of, truth-asked}

module _ (rows : List ℕ) (c : Lasso) (w : List ℕ) where
  abbrev n : ℕ
  n = length c.letters

  from_16 : (f : Formula) → From16 c (length w) (λ o. o ≡ truth_of c f) (asked c (length w) f)
  from_16 f = truth-asked c (length w) f

  refused : (why : Refusal) → ((f : Formula) → asked c (length w) f ≡ Truth.refused why) → Judged rows c (Err why) w w
  refused why q = record { answer = λ f h. sym (ap answer (q f)); words = λ f h. sym (ap (λ (t : Truth). written t w) (q f)) }

  pub no-cycle : n ≤ c.stem → Judged rows c (Err Stem) w w
  no-cycle h = refused Stem (λ f. first_refusal (from_16 f) (λ q. omega arith))

  pub too_long : c.stem < n → 8192 < n → Judged rows c (Err Positions) w w
  too_long h k = refused Positions (λ f. first_refusal (passed (from_16 f) h) (λ q. omega arith))

  -- the letters as code tests them
  abbrev Tested : Bool → Type 0
  Tested b = all in_alphabet c.letters ≡ b

  such : Tested true → T (over_alphabet c)
  unfolding over_alphabet
  such e = to_T (over_alphabet c) e

  not_such : Tested false → T (over_alphabet c) → ⊥
  unfolding over_alphabet
  not_such e t = subst T e t

  pub other_letter : c.stem < n → n ≤ 8192 → Tested false → Judged rows c (Err Alphabet) w w
  other_letter h k e = refused Alphabet (λ f. first_refusal (passed (passed (from_16 f) h) k) (not_such e))

  -- past 19
  from_18 : (f : Formula) → c.stem < n → n ≤ 8192 → T (over_alphabet c)
      → Asked (n ≤ length w) (Truth.refused Words) (λ o. o ≡ truth_of c f) (asked c (length w) f)
  from_18 f h k t = passed (passed (passed (from_16 f) h) k) t

  pub no_room : c.stem < n → n ≤ 8192 → Tested true → length w < n → Judged rows c (Err Words) w w
  no_room h k e l = refused Words (λ f. first_refusal (from_18 f h k (such e)) (λ q. omega arith))

  pub judged : (b : Bool) (v : List ℕ) → c.stem < n → n ≤ 8192 → Tested true → n ≤ length w → TruthFound rows c b w v
      → Judged rows c (Ok b) w v
  judged b v h k e l a = record {
    answer = λ f t. ap Ok (a.truth f t) ∙ sym (ap answer (all_well f));
    words = λ f t.
        a.words f t ∙ ap (λ (m : ℕ). labelling c f ++ drop m w) (sym (length-labelling c f))
        ∙ sym (ap (λ (t : Truth). written t w) (all_well f));
  }
    where
      all_well : (f : Formula) → asked c (length w) f ≡ truth_of c f
      all_well f = passed (from_18 f h k (such e)) l

-- the rows that reading hands back have the formula at 0
held-written : (bytes : List ℕ) (t : Table) (h : Read bytes t) → FormulaInRows t.rows 0 [] [] h.formula
held-written bytes t h =
    let f = h.formula in
    let limits = parse-limited bytes f h.parsed in
    let s = occurs_whole (operator_at t.rows) (end_at t.rows) f
    (λ e l. row (operator_at t.rows) nothing e l ∙ ap (λ (x : List Operator). get_or x e nothing) h.operators)
    (λ e l. row (end_at t.rows) 0 e l ∙ ap (λ (x : List ℕ). get_or x e 0) h.ends) (parse-guarded bytes f h.parsed)
    limits.signals in
    record {
      operators = s.operators;
      bounds = s.bounds;
      fits = omega (arith, limits.commands);
      guarded = s.guarded;
      ranged = s.ranged;
      scoped = refl;
      enclosed = λ d l. absurd (omega arith);
    }
  where
    row : {A : Type 0} (g : ℕ → A) (d : A) (e : ℕ) → e < size h.formula → g e ≡ get_or (map g (range 0 t.count)) e d
    row g d e l = sym (values_at g 0 t.count e d (omega (arith, held-count h)) ∙ ap g {x = 0 + e} {y = e} (omega arith))

pub read_held : (bytes : List ℕ) (r : Result Table reading.Refusal) {t : Table} → reading_of r ≡ reading bytes → r ≡ Ok t
    → FormulaAt t.rows 0
read_held bytes r {t} q o =
    let h = reading-held bytes r q o in
    record { guards = []; binders = []; subformula = h.formula; written = held-written bytes t h }

module _ (bytes : List ℕ) (c : Lasso) (w : List ℕ) where
  abbrev outcome : Truth
  outcome = truth bytes c (length w)

  -- what the operation promises of its answer and of the words
  pub record Promised (a : Result Bool Refusal) (v : List ℕ) : Type 0 where
    pub answered : a ≡ answer outcome
    pub labelled : v ≡ written outcome w

  outcome-accepted : (f : Formula) → parse bytes ≡ Reading.accepted f → outcome ≡ asked c (length w) f
  unfolding truth parse over_alphabet labelling meets
  outcome-accepted f q = ap (after_reading c (length w)) q

  outcome-refused : {why : reading.Refusal} → parse bytes ≡ Reading.refused why → outcome ≡ Truth.refused (Unread why)
  unfolding truth parse over_alphabet labelling meets
  outcome-refused q = ap (after_reading c (length w)) q

  module _ (r : Result Table reading.Refusal) (q : reading_of r ≡ reading bytes) where
    pub truth-unread : {why : reading.Refusal} → r ≡ Err why → Promised (Err (Unread why)) w
    truth-unread o =
        let same = outcome-refused (reading-refused bytes r q o) in
        record { answered = sym (ap answer same); labelled = sym (ap (λ (t : Truth). written t w) same) }

    pub truth_read : {t : Table} → r ≡ Ok t → (a : Result Bool Refusal) (v : List ℕ) → Judged t.rows c a w v → Promised a v
    truth_read {t} o a v j =
        let h = reading-held bytes r q o in
        let f = h.formula in
        let here = held-written bytes t h in
        let same = outcome-accepted f h.parsed in
        record {
          answered = j.answer f here ∙ sym (ap answer same);
          labelled = j.words f here ∙ sym (ap (λ (t : Truth). written t w) same);
        }
