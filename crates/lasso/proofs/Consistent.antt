-- The labelling is consistent: at every position each subformula's truth is what its operator says of the truth of its operands, a
-- variable's that of its fixpoint, a fixpoint's that of its body. Along the formula's tree each operator's sets stand beside its row of
-- the table; only the fixpoint's row is no matter of computing, and there the rounds have come to rest (Fixpoint). Also: the sets are
-- as many as the subformulas, of one element for each letter, and the words of the labelling have exactly these bits. Assumes nothing.
use Rattle.std.proofs.Common.{◌≡◌, refl, sym, ap, ◌∙◌, Bool, true, false, cond, List, [], ◌∷◌, map, ℕ, zero, suc, ◌+◌, ◌≤◌, ◌<◌, arith, eqb}
use Rattle.std.proofs.Common.{length, get_or, length-append, eqb-true}
use lib.ListN
use lib.ListN.{length-map, get_or-append, get_or-eq_default}
use lib.Seq.{get_or_at}
use borrow.Author.Tests.{eqb-false}
use Rattle.base.specs.Bits.{bit}
use Rattle.base.specs.Lists.{range}
use Rattle.base.proofs.WordLaws.{word-bit}
use Rattle.base.proofs.ListLaws.{Each, each_append, each_left, each_right, each_at, each_of, get_d_map, length-range, getD_range}
use Rattle.formula.specs.Formula.{Leaf, Formula, size}
use Rattle.formula.specs.Table.{Operator, table_from, table}
use Rattle.formula.specs.Occurrence.{Closed}
use Rattle.formula.proofs.WellFormed.{length-table}
use Rattle.lasso.specs.Lasso.{Lasso, Positions, leaf_at, joined, combine, before, holds, sets, label, labelling}
use Rattle.lasso.proofs.Monotone.{span, SetsSized, length-holds}
use Rattle.lasso.proofs.Fixpoint.{fixed}

-- whether subformula e is true at position i
abbrev pub true_at : List Positions → (e i : ℕ) → Bool
true_at ss e i = get_or (get_or ss e []) i false

-- the position after, and of the last one the first of the cycle
abbrev pub successor : Lasso → ℕ → ℕ
successor c i = cond (eqb (i + 1) (span c)) c.stem (i + 1)

-- what an operator says of a position, by the truth of its operands
abbrev pub says : Lasso → List Positions → (i : ℕ) → Operator → Bool
says c ss i (Operator.leaf l) = leaf_at l (get_or c.letters i 0)
says c ss i (Operator.variable binder) = true_at ss binder i
says c ss i (Operator.pair o left right) = joined o (true_at ss left i) (true_at ss right i)
says c ss i (Operator.next operand) = true_at ss operand (successor c i)
says c ss i (Operator.fix g body) = true_at ss body i

pub getD_combine : (o : Bool) (s t : Positions) → length s ≡ length t → (i : ℕ)
    → get_or (combine o s t) i false ≡ joined o (get_or s i false) (get_or t i false)
getD_combine true [] [] l i = refl
getD_combine false [] [] l i = refl
getD_combine o [] (b ∷ t) l i = absurd (omega arith)
getD_combine o (a ∷ s) [] l i = absurd (omega arith)
getD_combine o (a ∷ s) (b ∷ t) l zero = refl
getD_combine o (a ∷ s) (b ∷ t) l (suc i) = getD_combine o s t (omega arith) i

pub getD_before : (stem : ℕ) (s : Positions) (i : ℕ) → i < length s
    → get_or (before stem s) i false ≡ get_or s (cond (eqb (i + 1) (length s)) stem (i + 1)) false
getD_before stem [] i h = absurd (omega arith)
getD_before stem (a ∷ s) i h = by (eqb (i + 1) (length (a ∷ s))) refl
  where
    by : (t : Bool) → eqb (i + 1) (length (a ∷ s)) ≡ t → get_or (before stem (a ∷ s)) i false ≡ get_or (a ∷ s) (cond t stem (i + 1)) false
    by true q = get_or_at s (get_or (a ∷ s) stem false) [] false i (omega (arith, eqb-true (i + 1) (length (a ∷ s)) q))
    by false q =
        get_or-append s (get_or (a ∷ s) stem false ∷ []) false i (omega (arith, eqb-false (i + 1) (length (a ∷ s)) q))
        ∙ ap (λ (k : ℕ). get_or (a ∷ s) k false) {x = suc i} {y = i + 1} (omega arith)

-- Theorem: there are as many sets as subformulas.
pub length-sets : (c : Lasso) (f : Formula) (ρ : List Positions) → length (sets c f ρ) ≡ size f
length-sets c (Formula.leaf l) ρ = refl
length-sets c (Formula.variable d) ρ = refl
length-sets c (Formula.pair o a b) ρ =
    omega (arith, length-append (sets c a ρ) (sets c b ρ), length-sets c a ρ, length-sets c b ρ)
length-sets c (Formula.next a) ρ = omega (arith, length-sets c a ρ)
length-sets c (Formula.fix g a) ρ = omega (arith, length-sets c a (holds c (Formula.fix g a) ρ ∷ ρ))

-- in the list ss of the sets of a whole formula, s is that of subformula e
abbrev pub ConsistentAt : List Positions → ℕ → Positions → Type 0
ConsistentAt ss e s = get_or ss e [] ≡ s

-- the sets of the enclosing fixpoints are those of the subformulas that bind the variables
pub data SetsAround (ss : List Positions) : List ℕ → List Positions → Type 0 where
  none : SetsAround ss [] []
  put : {e : ℕ} {s : Positions} {bs : List ℕ} {ρ : List Positions} → ConsistentAt ss e s → SetsAround ss bs ρ
      → SetsAround ss (e ∷ bs) (s ∷ ρ)

around-at : {ss : List Positions} {bs : List ℕ} {ρ : List Positions} → SetsAround ss bs ρ → (d : ℕ) → d < length ρ
    → ConsistentAt ss (get_or bs d 0) (get_or ρ d [])
around-at SetsAround.none d h = absurd (omega arith)
around-at (SetsAround.put q r) zero h = q
around-at (SetsAround.put q r) (suc d) h = around-at r d (omega arith)

-- the truth of subformula e is what its operator says
abbrev pub Right : Lasso → List Positions → ℕ → Operator → Type 0
Right c ss e op = (i : ℕ) → i < span c → true_at ss e i ≡ says c ss i op

-- a variable has its fixpoint's set, and a fixpoint its body's
same_truth : (ss : List Positions) (e l : ℕ) (s : Positions) → ConsistentAt ss e s → ConsistentAt ss l s → (i : ℕ)
    → true_at ss e i ≡ true_at ss l i
same_truth ss e l s q x i = ap (λ (u : Positions). get_or u i false) (q ∙ sym x)

module _ (c : Lasso) (ss : List Positions) where
  right-leaf : (l : Leaf) (e : ℕ) → ConsistentAt ss e (map (leaf_at l) c.letters) → Right c ss e (Operator.leaf l)
  right-leaf l e q i h = rw q (get_d_map (leaf_at l) c.letters i 0 false h)

  right-pair : (o : Bool) (e l r : ℕ) (s t : Positions) → ConsistentAt ss e (combine o s t) → ConsistentAt ss l s → ConsistentAt ss r t
      → length s ≡ length t
      → Right c ss e (Operator.pair o l r)
  right-pair o e l r s t q x y k i h = rw (q, x, y) (getD_combine o s t k i)

  right-next : (e l : ℕ) (s : Positions) → ConsistentAt ss e (before c.stem s) → ConsistentAt ss l s → length s ≡ span c
      → Right c ss e (Operator.next l)
  right-next e l s q x k i h = rw (q, x, ← k) (getD_before c.stem s i (omega arith))

module _ (c : Lasso) (some : 0 < span c) where
  -- the rows of a subformula f that stands at e in ss
  pub right-from : (ss : List Positions) (f : Formula) (e : ℕ) (bs : List ℕ) (ρ : List Positions) → Closed (length ρ) f
      → SetsSized (span c) ρ
      → SetsAround ss bs ρ → Each (ConsistentAt ss) e (sets c f ρ) → Each (Right c ss) e (table_from e bs f)
  right-from ss (Formula.leaf l) e bs ρ k z out h = (right-leaf c ss l e h.0, tt)
  right-from ss (Formula.variable d) e bs ρ k z out h =
      (λ i q. same_truth ss e (get_or bs d 0) (get_or ρ d []) h.0 (around-at out d k) i, tt)
  right-from ss (Formula.pair o a b) e bs ρ k z out h =
      let second = e + 1 + size a in
      let x = each_left (ConsistentAt ss) (e + 1) (sets c a ρ) (sets c b ρ) h.1 in
      let y = each_right (ConsistentAt ss) (e + 1) second (sets c a ρ) (sets c b ρ) (ap (e + 1 +◌) (length-sets c a ρ)) h.1 in
      let l = length-holds c some a ρ k.0 z ∙ sym (length-holds c some b ρ k.1 z) in (
        right-pair c ss o e (e + 1) second (holds c a ρ) (holds c b ρ) h.0 x.0 y.0 l,
        each_append (Right c ss) (e + 1) second (table_from (e + 1) bs a) (table_from second bs b)
            (ap (e + 1 +◌) (length-table (e + 1) bs a)) (right-from ss a (e + 1) bs ρ k.0 z out x)
            (right-from ss b second bs ρ k.1 z out y),
      )
  right-from ss (Formula.next a) e bs ρ k z out h = (
    right-next c ss e (e + 1) (holds c a ρ) h.0 h.1.0 (length-holds c some a ρ k z),
    right-from ss a (e + 1) bs ρ k z out h.1,
  )
  right-from ss (Formula.fix g a) e bs ρ k z out h =
      let s = holds c (Formula.fix g a) ρ in (
        λ i q. same_truth ss e (e + 1) s h.0 (h.1.0 ∙ fixed c some a ρ k z g) i,
        right-from ss a (e + 1) (e ∷ bs) (s ∷ ρ) k (length-holds c some (Formula.fix g a) ρ k z, z) (SetsAround.put h.0 out) h.1,
      )

-- every set stands where it is
pub stand : (ss : List Positions) → Each (ConsistentAt ss) 0 ss
stand ss = each_of (ConsistentAt ss) 0 ss [] (λ j q. ap (λ (n : ℕ). get_or ss n []) {x = 0 + j} {y = j} (omega arith))

-- Theorem: at every position the truth of each subformula of a closed formula is what its operator in the table says.
pub consistent : (c : Lasso) (f : Formula) → Closed 0 f → (e : ℕ) → e < size f → (d : Operator) (i : ℕ) → i < span c
    → true_at (sets c f []) e i ≡ says c (sets c f []) i (get_or (table f) e d)
unfolding table
consistent c f k e h d i l =
    let ss = sets c f [] in
    ap (λ (j : ℕ). true_at ss j i) {x = e} {y = 0 + e} (omega arith)
    ∙ each_at (Right c ss) 0 (table_from 0 [] f) d (right-from c (omega arith) ss f 0 [] [] k tt SetsAround.none (stand ss)) e
    (omega (arith, length-table 0 [] f)) i l

module _ (c : Lasso) (f : Formula) where
  pub length-labelling : length (labelling c f) ≡ span c
  unfolding labelling
  length-labelling = length-map (range 0 (span c)) (label (sets c f [])) ∙ length-range 0 (span c)

  label_at : (i : ℕ) → i < span c → get_or (labelling c f) i 0 ≡ label (sets c f []) i
  unfolding labelling
  label_at i h =
      get_d_map (label (sets c f [])) (range 0 (span c)) i 0 0 (omega (arith, length-range 0 (span c)))
      ∙ ap (label (sets c f [])) (getD_range 0 (span c) i 0 h ∙ omega arith)

  -- Theorem: bit e of word i says whether subformula e is true at position i.
  pub labelling-bit : (i : ℕ) → i < span c → (e : ℕ) → bit (get_or (labelling c f) i 0) e ≡ true_at (sets c f []) e i
  labelling-bit i h e =
      ap (λ (w : ℕ). bit w e) (label_at i h) ∙ word-bit (map (λ (s : Positions). get_or s i false) (sets c f [])) e
      ∙ ListN.get_or-map (λ (s : Positions). get_or s i false) (sets c f []) e []

  -- Theorem: bits past the subformulas are 0.
  pub labelling-past : (i : ℕ) → i < span c → (e : ℕ) → size f ≤ e → bit (get_or (labelling c f) i 0) e ≡ false
  labelling-past i h e l =
      labelling-bit i h e
      ∙ ap (λ (s : Positions). get_or s i false) (get_or-eq_default (sets c f []) [] {n = e} (omega (arith, length-sets c f [])))
