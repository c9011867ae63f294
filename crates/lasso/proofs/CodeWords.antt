-- From the columns of all subformulas to the words: a word has the bits of its position, and none past the subformulas since the words
-- were cleared. Assumes nothing.
use Rattle.std.proofs.Common.{◌≡◌, refl, sym, ap, subst, ◌∙◌, Bool, false, ◌&&◌, List, [], ◌++◌, ℕ, ◌+◌, ◌≤◌, ◌<◌, arith, length, get_or}
use Rattle.std.proofs.Common.{take, drop, replicate, length-append, take-append-drop, ext_get_or, length-take-le, get_or-take, drop_at}
use Rattle.std.proofs.Common.{lt-ltb, le-ltb}
use native.Mathlib.Decide.{dec_lt}
use lib.ListN.{length-replicate, get_or-replicate, get_or-append}
use Rattle.base.specs.Bits.{bit}
use Rattle.base.proofs.WordLaws.{no-bit, same_bits}
use Rattle.base.proofs.NumberLaws.{values_at}
use Rattle.formula.specs.Formula.{Formula, size}
use Rattle.formula.specs.Table.{Operator}
use Rattle.formula.specs.Rows.{operator_at, end_at}
use Rattle.formula.proofs.Limits.{size-some}
use Rattle.lasso.specs.Lasso.{Lasso, Positions, holds, labelling, meets}
use Rattle.lasso.specs.Inner.{FormulaInRows, FormulaAt, WordsRoom, outside_of, column, ColumnsKept, Labelled, ClosedKnown}
use Rattle.lasso.specs.Inner.{ClosedLabelled, TruthFound}
use Rattle.lasso.proofs.Consistent.{length-labelling, labelling-bit, labelling-past}
use Rattle.lasso.proofs.CodeWritten.{written_end, nested}
use Rattle.lasso.proofs.CodeColumns.{column-at, kept_then}
use Rattle.lasso.proofs.CodeLabel.{first-shown}

-- Closed subformulas are labelled from the last to the first: those from k on are, in the words v, which were w at first.
pub record Labelling (rows : List ℕ) (c : Lasso) (w : List ℕ) (k : ℕ) (v : List ℕ) : Type 0 where
  pub few : k ≤ end_at rows 0
  pub kept : ColumnsKept (length c.letters) 0 (end_at rows 0) w v
  pub known : ClosedKnown rows c k (end_at rows 0) v

module _ (rows : List ℕ) (c : Lasso) (w : List ℕ) where
  pub labelling-more : (k j : ℕ) (v x : List ℕ) → FormulaAt rows 0 → k ≡ j + 1 → Labelling rows c w k v → ClosedLabelled rows c j v x
      → Labelling rows c w j x
  labelling-more k j v x held next so_far t =
      let far : end_at rows j ≤ end_at rows 0 = nested rows 0 held j (omega arith) (omega (arith, so_far.few)) in
      record {
        few = omega (arith, so_far.few);
        kept = kept_then (length c.letters) so_far.kept t.kept (omega arith) (omega arith) (omega arith) far;
        known = t.known (end_at rows 0) far (subst (λ (i : ℕ). ClosedKnown rows c i (end_at rows 0) v) next so_far.known);
      }

  pub labelling-all : (k : ℕ) (v : List ℕ) → k ≤ 0 → Labelling rows c w k v → Labelling rows c w 0 v
  labelling-all k v none = subst (λ (i : ℕ). Labelling rows c w i v) {x = k} {y = 0} (omega arith)

-- no fixpoint stands before the first subformula
nothing-outside : (op : Operator) → outside_of 0 op ≡ false
nothing-outside (Operator.leaf l) = refl
nothing-outside (Operator.variable m) = le-ltb m 0 (omega arith)
nothing-outside (Operator.pair o l r) = refl
nothing-outside (Operator.next l) = refl
nothing-outside (Operator.fix g l) = refl

module _ (rows : List ℕ) (c : Lasso) (b : Bool) (w v₀ v : List ℕ) (room : WordsRoom (length c.letters) c.stem (length w))
    (cleared : v₀ ≡ replicate (length c.letters) 0 ++ drop (length c.letters) w) (all : Labelling rows c v₀ 0 v)
    (is : b ≡ bit (get_or v 0 0) 0) where
  abbrev n : ℕ
  n = length c.letters

  long₀ : n ≤ length v₀
  long₀ = omega (arith, ap length cleared, length-append (replicate n 0) (drop n w), length-replicate {A = ℕ} n 0)

  module _ (f : Formula) (h : FormulaInRows rows 0 [] [] f) where
    labelled : Labelled c f 0 [] v₀ v
    labelled =
        let last : end_at rows 0 ≡ 0 + size f = written_end rows h in
        record {
          shown = all.known.shown 0 (omega arith) (omega (arith, last, size-some f)) (λ k l m. nothing-outside (operator_at rows k)) f
              [] [] h;
          kept = subst (λ (k : ℕ). ColumnsKept n 0 k v₀ v) last all.kept;
        }

    long : n ≤ length v
    long = omega (arith, labelled.kept.long, long₀)

    inside : (i : ℕ) → i < n → (k : ℕ) → k < size f → bit (get_or v i 0) k ≡ bit (get_or (labelling c f) i 0) k
    inside i l k m =
        sym (column-at n k v long i l)
        ∙ ap (λ (s : Positions). get_or s i false)
        (ap (column n v) {x = k} {y = 0 + k} (omega arith)
        ∙ sym (values_at (column n v) 0 (size f) k [] m)
        ∙ ap (λ (ss : List Positions). get_or ss k []) labelled.shown)
        ∙ sym (labelling-bit c f i l k)

    past : (i : ℕ) → i < n → (k : ℕ) → size f ≤ k → bit (get_or v i 0) k ≡ bit (get_or (labelling c f) i 0) k
    past i l k m =
        sym (column-at n k v long i l)
        ∙ ap (λ (s : Positions). get_or s i false) (labelled.kept.above k (omega arith))
        ∙ column-at n k v₀ long₀ i l
        ∙ ap (λ (x : ℕ). bit x k)
        (ap (λ (u : List ℕ). get_or u i 0) cleared
        ∙ get_or-append (replicate n 0) (drop n w) 0 i (omega (arith, length-replicate {A = ℕ} n 0))
        ∙ get_or-replicate n i 0 0 l)
        ∙ no-bit k
        ∙ sym (labelling-past c f i l k m)

    word_is : (i : ℕ) → i < n → get_or v i 0 ≡ get_or (labelling c f) i 0
    word_is i l = same_bits (get_or v i 0) (get_or (labelling c f) i 0) (λ k. by k (dec_lt k (size f)))
      where
        by : (k : ℕ) → Dec (k < size f) → bit (get_or v i 0) k ≡ bit (get_or (labelling c f) i 0) k
        by k (yes m) = inside i l k m
        by k (no m) = past i l k (omega arith)

    front : take n v ≡ labelling c f
    front =
        ext_get_or 0 (take n v) (labelling c f) (length-take-le n v long ∙ sym (length-labelling c f))
        (λ i l. let h : i < n = omega (arith, length-take-le n v long) in get_or-take n v i 0 h ∙ word_is i h)

    rest : drop n v ≡ drop n w
    rest = labelled.kept.rest ∙ ap (drop n) cleared ∙ drop_at (replicate n 0) (drop n w) n (length-replicate n 0)

    words : v ≡ labelling c f ++ drop n w
    words = sym (take-append-drop n v) ∙ ap (λ (u : List ℕ). u ++ drop n v) front ∙ ap (λ (u : List ℕ). labelling c f ++ u) rest

    truth : b ≡ meets c f
    unfolding meets
    truth =
        is ∙ sym (column-at n 0 v long 0 (omega (arith, room.cycle)))
        ∙ ap (λ (s : Positions). get_or s 0 false) (first-shown c f 0 v [] labelled.shown)
        ∙ sym (ap (λ (t : Bool). t && get_or (holds c f []) 0 false) (lt-ltb c.stem n room.cycle))

  pub answered : TruthFound rows c b w v
  answered = record { truth = truth; words = words }
