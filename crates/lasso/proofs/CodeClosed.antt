-- A subformula without variables of the fixpoints around it has the same sets whatever theirs are; so it is labelled once, and then
-- left as it is. Assumes nothing.
use Rattle.std.proofs.Common.{◌≡◌, refl, sym, ap, ◌∙◌, ◌⊎◌, inl, inr, true, false, List, [], ◌∷◌, ◌++◌, map, ℕ, zero, suc, ◌+◌, ◌-◌, ◌≤◌}
use Rattle.std.proofs.Common.{◌<◌, arith, length, get_or, length-append, get_or-append-add, ltb-false}
use native.Mathlib.Decide.{dec_lt}
use lib.ListN.{get_or-append}
use Rattle.base.specs.Lists.{iterate}
use Rattle.base.proofs.NumberLaws.{values_same}
use Rattle.formula.specs.Formula.{Formula, size}
use Rattle.formula.specs.Rows.{operator_at, end_at}
use Rattle.lasso.specs.Lasso.{Lasso, Positions, combine, before, holds, sets}
use Rattle.formula.specs.Occurrence.{Guards, Closed}
use Rattle.formula.proofs.Limits.{size-some}
use Rattle.formula.proofs.WellFormed.{sits_first}
use Rattle.lasso.specs.Inner.{FormulaInRows, FormulaAt, outside_of, Alone, Shut, column, columns, ColumnsKept, ClosedKnown}
use Rattle.lasso.specs.Inner.{Evaluated, ClosedLabelled}
use Rattle.lasso.proofs.Fixpoint.{body}
use Rattle.lasso.proofs.CodeWritten.{written_end, written-left, written-right, written_next, written-body, held-some}
use Rattle.lasso.proofs.CodeColumns.{kept_refl, columns-below, columns-above}

-- no variable names a fixpoint of bs, all of which are before e₀: the fixpoints xs inside close the formula
module _ (rows bs : List ℕ) (e₀ : ℕ) (outer : (d : ℕ) → d < length bs → get_or bs d 0 < e₀) where
  abbrev Free : ℕ → ℕ → Type 0
  Free e m = (k : ℕ) → e ≤ k → k < e + m → outside_of e₀ (operator_at rows k) ≡ false

  near : (xs : List ℕ) (d : ℕ) → d < length (xs ++ bs) → e₀ ≤ get_or (xs ++ bs) d 0 → d < length xs
  near xs d h q = by (dec_lt d (length xs))
    where
      by : Dec (d < length xs) → d < length xs
      by (yes l) = l
      by (no l) =
          let j : d ≡ length xs + (d - length xs) = omega arith in
          let at : get_or (xs ++ bs) d 0 ≡ get_or bs (d - length xs) 0 =
          ap (λ (i : ℕ). get_or (xs ++ bs) i 0) j ∙ get_or-append-add xs bs (d - length xs) 0 in
          absurd (omega (arith, outer (d - length xs) (omega (arith, length-append xs bs))))

  closes : (f : Formula) (e : ℕ) (s : Guards) (xs : List ℕ) → FormulaInRows rows e s (xs ++ bs) f → Free e (size f) → Closed (length xs) f
  closes (Formula.leaf l) e s xs h free = tt
  closes (Formula.variable d) e s xs h free =
      near xs d (omega (arith, h.guarded.0, h.scoped))
      (ltb-false (get_or (xs ++ bs) d 0) e₀ (sym (ap (outside_of e₀) (sits_first h.operators)) ∙ free e (omega arith) (omega arith)))
  closes (Formula.pair o a b) e s xs h free = (
    closes a (e + 1) s xs (written-left rows h) (λ k l m. free k (omega arith) (omega arith)),
    closes b (e + 1 + size a) s xs (written-right rows h) (λ k l m. free k (omega arith) (omega arith)),
  )
  closes (Formula.next a) e s xs h free =
      closes a (e + 1) (map (λ _. true) s) xs (written_next rows h)
      (λ k l m. free k (omega arith) (omega arith))
  closes (Formula.fix g a) e s xs h free =
      closes a (e + 1) (false ∷ s) (e ∷ xs) (written-body rows h)
      (λ k l m. free k (omega arith) (omega arith))

iterate-same : (k : ℕ) (f g : Positions → Positions) → ((s : Positions) → f s ≡ g s) → (s : Positions) → iterate k f s ≡ iterate k g s
iterate-same zero f g h s = refl
iterate-same (suc k) f g h s = ap (iterate k f) (h s) ∙ iterate-same k f g h (g s)

module _ (c : Lasso) (ρ σ : List Positions) where
  same-holds : (f : Formula) (xs : List Positions) → Closed (length xs) f → holds c f (xs ++ ρ) ≡ holds c f (xs ++ σ)
  same-holds (Formula.leaf l) xs h = refl
  same-holds (Formula.variable d) xs h = get_or-append xs ρ [] d h ∙ sym (get_or-append xs σ [] d h)
  same-holds (Formula.pair o a b) xs h =
      ap (λ (s : Positions). combine o s (holds c b (xs ++ ρ))) (same-holds a xs h.0)
      ∙ ap (combine o (holds c a (xs ++ σ))) (same-holds b xs h.1)
  same-holds (Formula.next a) xs h = ap (before c.stem) (same-holds a xs h)
  same-holds (Formula.fix g a) xs h =
      iterate-same (length c.letters) (body c a (xs ++ ρ)) (body c a (xs ++ σ)) (λ s. same-holds a (s ∷ xs) h)
      (map (λ _. g) c.letters)

  cons : {a b : Positions} {s t : List Positions} → a ≡ b → s ≡ t → ◌≡◌ {A = List Positions} (a ∷ s) (b ∷ t)
  cons p q = cc

  append : {a b s t : List Positions} → a ≡ b → s ≡ t → a ++ s ≡ b ++ t
  append p q = cc

  same-sets : (f : Formula) (xs : List Positions) → Closed (length xs) f → sets c f (xs ++ ρ) ≡ sets c f (xs ++ σ)
  same-sets (Formula.leaf l) xs h = refl
  same-sets (Formula.variable d) xs h = cons (same-holds (Formula.variable d) xs h) refl
  same-sets (Formula.pair o a b) xs h = cons (same-holds (Formula.pair o a b) xs h) (append (same-sets a xs h.0) (same-sets b xs h.1))
  same-sets (Formula.next a) xs h = cons (same-holds (Formula.next a) xs h) (same-sets a xs h)
  same-sets (Formula.fix g a) xs h =
      let q = same-holds (Formula.fix g a) xs h in
      cons q (same-sets a (holds c (Formula.fix g a) (xs ++ ρ) ∷ xs) h ∙ ap (λ (s : Positions). sets c a (s ∷ (xs ++ σ))) q)

-- the same of a subformula that the rows have: all sets of the fixpoints around it give the same sets
pub alone-sets : (rows : List ℕ) (c : Lasso) {e : ℕ} → Alone rows e → {s : Guards} {bs : List ℕ} {f : Formula}
    → FormulaInRows rows e s bs f
    → (ρ σ : List Positions) → sets c f ρ ≡ sets c f σ
alone-sets rows c {e} alone {s} {bs} {f} h ρ σ =
    same-sets c ρ σ f []
    (closes rows bs e (λ d l. (h.enclosed d l).before) f e s [] h (λ k l m. alone k l (omega (arith, written_end rows h))))

-- closed subformulas stay labelled where the columns of what stands in them are kept
pub known_same : (rows : List ℕ) (c : Lasso) (e hi : ℕ) (w v : List ℕ)
    → ((k : ℕ) → Shut rows e k → column (length c.letters) v k ≡ column (length c.letters) w k)
    → ClosedKnown rows c (e + 1) hi w → ClosedKnown rows c (e + 1) hi v
known_same rows c e hi w v same known = record {
  shown = λ k l m alone f s bs h.
      let last : end_at rows k ≡ k + size f = written_end rows h in
      values_same (column (length c.letters) v) (column (length c.letters) w) k (size f)
      (λ j p q. same j (record { number = k; behind = omega arith; before = p; around = omega arith; alone = alone }))
      ∙ known.shown k l m alone f s bs h;
}

-- and where all columns from their first on, up to where they end, are
pub known_kept : (rows : List ℕ) (c : Lasso) (lo hi from to : ℕ) (w v : List ℕ) → ColumnsKept (length c.letters) from to w v
    → ((k : ℕ) → lo ≤ k → k < hi → (to ≤ k) ⊎ (end_at rows k ≤ from)) → ClosedKnown rows c lo hi w → ClosedKnown rows c lo hi v
known_kept rows c lo hi from to w v kept where-it-is known = record {
  shown = λ k l m alone f s bs h.
      let last : end_at rows k ≡ k + size f = written_end rows h in
      elim (where-it-is k l m) [
        | inl q ↦ columns-above (length c.letters) kept k (size f) q
        | inr q ↦ columns-below (length c.letters) kept k (size f) (omega arith)
      ]
      ∙ known.shown k l m alone f s bs h;
}

-- those of a part of the numbers, and of two parts
pub known-part : {rows : List ℕ} {c : Lasso} {lo hi : ℕ} {w : List ℕ} (from to : ℕ) → lo ≤ from → to ≤ hi → ClosedKnown rows c lo hi w
    → ClosedKnown rows c from to w
known-part from to p q known = record { shown = λ k l m. known.shown k (omega arith) (omega arith) }

pub known-join : {rows : List ℕ} {c : Lasso} {lo hi : ℕ} {w : List ℕ} (mid : ℕ) → ClosedKnown rows c lo mid w
    → ClosedKnown rows c mid hi w
    → ClosedKnown rows c lo hi w
known-join {rows} {c} {lo} {hi} {w} mid a b = record { shown = λ k l m. by k l m (dec_lt k mid) }
  where
    by : (k : ℕ) → lo ≤ k → k < hi → Dec (k < mid) → Alone rows k → (f : Formula) (s : Guards) (bs : List ℕ) → FormulaInRows rows k s bs f
        → columns (length c.letters) w k (size f) ≡ sets c f []
    by k l m (yes q) = a.shown k l q
    by k l m (no q) = b.shown k (omega arith) m

-- one number more in front, of a subformula that is labelled if it is closed
pub known-first : {rows : List ℕ} {c : Lasso} {e hi : ℕ} {w : List ℕ}
    → (Alone rows e → (f : Formula) (s : Guards) (bs : List ℕ) → FormulaInRows rows e s bs f
    → columns (length c.letters) w e (size f) ≡ sets c f [])
    → ClosedKnown rows c (e + 1) hi w → ClosedKnown rows c e hi w
known-first {rows} {c} {e} {hi} {w} own rest = record { shown = λ k l m. by k l m (dec_lt e k) }
  where
    by : (k : ℕ) → e ≤ k → k < hi → Dec (e < k) → Alone rows k → (f : Formula) (s : Guards) (bs : List ℕ) → FormulaInRows rows k s bs f
        → columns (length c.letters) w k (size f) ≡ sets c f []
    by k l m (yes q) = rest.shown k (omega arith) m
    by k l m (no q) = let same : k ≡ e = omega arith in rw same own

module _ (rows : List ℕ) (c : Lasso) (e : ℕ) (w : List ℕ) where
  abbrev n : ℕ
  n = length c.letters

  -- a closed subformula that is labelled is left as it is
  pub alone_evaluated : Alone rows e → Evaluated rows c e e w w
  alone_evaluated alone = record {
    kept = kept_refl n e (end_at rows e) w;
    known = λ k. k;
    done = λ known f s bs h.
        record {
          shown = known.shown e (omega arith) (omega (arith, written_end rows h, size-some f)) alone f s bs h
              ∙ alone-sets rows c alone h [] (map (column n w) bs);
          kept = kept_refl n e (e + size f) w;
        };
  }

  module _ (v : List ℕ) (ev : Evaluated rows c (e + 1) e w v) where
    -- any other is labelled where only those inside it are
    pub open_evaluated : (Alone rows e → ⊥) → Evaluated rows c e e w v
    open_evaluated apart = record {
      kept = ev.kept;
      known = λ known. known-first (λ alone. absurd (apart alone))
          (ev.known (known-part (e + 1) (end_at rows e) (omega arith) (omega arith) known));
      done = λ known. ev.done (known-part (e + 1) (end_at rows e) (omega arith) (omega arith) known);
    }

    -- a closed one is then labelled too, and those behind it still are
    pub closing_done : FormulaAt rows e → Alone rows e → ClosedLabelled rows c e w v
    closing_done held alone = record {
      kept = ev.kept;
      known = λ hi far known.
          let part = known-part (e + 1) (end_at rows e) (omega arith) far known in
          let behind = known-part (end_at rows e) hi (omega (arith, held-some rows e held)) (omega arith) known in
          let inside : ClosedKnown rows c (e + 1) (end_at rows e) v = ev.known part in
          let after : ClosedKnown rows c (end_at rows e) hi v =
          known_kept rows c (end_at rows e) hi e (end_at rows e) w v ev.kept (λ k l m. inl l) behind in
          known-first
          (λ a f s bs h. (ev.done part f s bs h).shown ∙ alone-sets rows c alone h (map (column n w) bs) [])
          (known-join (end_at rows e) inside after);
    }

  -- one that is not closed is left for later
  pub closing_none : (Alone rows e → ⊥) → ClosedLabelled rows c e w w
  closing_none apart = record {
    kept = kept_refl n e (end_at rows e) w;
    known = λ hi far known. known-first (λ alone. absurd (apart alone)) known;
  }
