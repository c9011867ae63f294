-- Rows that have a formula at e have its operands where its operator says, each of them smaller. What stands there is a formula (`Occurs`
-- of crate formula), and what is inside it is the formula's; here both are found by the operator that the code sees. Assumes nothing.
use Rattle.std.proofs.Common.{◌≡◌, sym, ap, subst, ◌∙◌, Bool, true, false, List, ◌∷◌, map, ℕ, ◌+◌, ◌-◌, ◌*◌, ◌≤◌, ◌<◌, mul-le-mul_left}
use Rattle.std.proofs.Common.{mul-add, arith, length, get_or}
use Rattle.formula.specs.Formula.{Formula, size}
use Rattle.formula.specs.Table.{Operator}
use Rattle.formula.specs.Occurrence.{Guards}
use Rattle.formula.specs.Rows.{operator_at, end_at}
use Rattle.formula.specs.Access.{Placed}
use Rattle.formula.proofs.WellFormed.{Operands, Single, Pair, Shaped, sits_first, occurs_left, occurs_right, occurs_next, occurs_body}
use Rattle.formula.proofs.WellFormed.{occurs_end, occurs_nested, occurs_shaped, located}
use Rattle.formula.proofs.FitLaws.{shaped_fits, placed}
use Rattle.lasso.specs.Inner.{course, FormulaInRows, FormulaAt, WordsRoom, LabelReady, Fixes}
use Rattle.lasso.specs.declared.labeller.Labeller.{Labeller}

-- how many subformulas e has
abbrev pub size-at : List ℕ → ℕ → ℕ
size-at rows e = end_at rows e - e

-- the laws of what stands somewhere, for formulas that the rows have
module _ (rows : List ℕ) {e : ℕ} {s : Guards} {bs : List ℕ} where
  pub written_end : {f : Formula} → FormulaInRows rows e s bs f → end_at rows e ≡ e + size f
  written_end = occurs_end (operator_at rows) (end_at rows) 48

  pub written-left : {o : Bool} {a b : Formula} → FormulaInRows rows e s bs (Formula.pair o a b) → FormulaInRows rows (e + 1) s bs a
  written-left = occurs_left (operator_at rows) (end_at rows) 48

  pub written-right : {o : Bool} {a b : Formula} → FormulaInRows rows e s bs (Formula.pair o a b)
      → FormulaInRows rows (e + 1 + size a) s bs b
  written-right = occurs_right (operator_at rows) (end_at rows) 48

  pub written_next : {a : Formula} → FormulaInRows rows e s bs (Formula.next a) → FormulaInRows rows (e + 1) (map (λ _. true) s) bs a
  written_next = occurs_next (operator_at rows) (end_at rows) 48

  pub written-body : {g : Bool} {a : Formula} → FormulaInRows rows e s bs (Formula.fix g a)
      → FormulaInRows rows (e + 1) (false ∷ s) (e ∷ bs) a
  written-body = occurs_body (operator_at rows) (end_at rows) 48

-- the operator of a formula that stands at e, and a fact of every formula that has an operator
abbrev top : (e : ℕ) → List ℕ → Formula → Operator
top e bs (Formula.leaf l) = Operator.leaf l
top e bs (Formula.variable d) = Operator.variable (get_or bs d 0)
top e bs (Formula.pair o a b) = Operator.pair o (e + 1) (e + 1 + size a)
top e bs (Formula.next a) = Operator.next (e + 1)
top e bs (Formula.fix g a) = Operator.fix g (e + 1)

abbrev pub Cases : (Formula → Type 0) → Operator → Type 0
Cases P (Operator.leaf l) = P (Formula.leaf l)
Cases P (Operator.variable m) = (d : ℕ) → P (Formula.variable d)
Cases P (Operator.pair o l r) = (a b : Formula) → P (Formula.pair o a b)
Cases P (Operator.next l) = (a : Formula) → P (Formula.next a)
Cases P (Operator.fix g l) = (a : Formula) → P (Formula.fix g a)

by_cases : (P : Formula → Type 0) (e : ℕ) (bs : List ℕ) (f : Formula) → Cases P (top e bs f) → P f
by_cases P e bs (Formula.leaf l) h = h
by_cases P e bs (Formula.variable d) h = h d
by_cases P e bs (Formula.pair o a b) h = h a b
by_cases P e bs (Formula.next a) h = h a
by_cases P e bs (Formula.fix g a) h = h a

module _ (rows : List ℕ) (e : ℕ) where
  top_is : {s : Guards} {bs : List ℕ} (f : Formula) → FormulaInRows rows e s bs f → operator_at rows e ≡ top e bs f
  top_is (Formula.leaf l) h = sits_first h.operators
  top_is (Formula.variable d) h = sits_first h.operators
  top_is (Formula.pair o a b) h = sits_first h.operators
  top_is (Formula.next a) h = sits_first h.operators
  top_is (Formula.fix g a) h = sits_first h.operators

  -- a fact of the formula at e, by the operator there
  pub by_operator : (s : Guards) (bs : List ℕ) (op : Operator) → operator_at rows e ≡ op → (P : Formula → Type 0)
      → Cases (λ (f : Formula). FormulaInRows rows e s bs f → P f) op → (f : Formula) → FormulaInRows rows e s bs f → P f
  by_operator s bs op q P c f h =
      let Q : Formula → Type 0 = λ (f : Formula). FormulaInRows rows e s bs f → P f in
      by_cases Q e bs f (subst (Cases Q) (sym q ∙ top_is f h) c) h

  -- a subformula with fewer subformulas
  pub record OperandAt (k : ℕ) : Type 0 where
    pub held : FormulaAt rows k
    pub smaller : size-at rows k < size-at rows e

  module _ (h : FormulaAt rows e) where
    pub shaped : Shaped (operator_at rows) (end_at rows) 48 e
    shaped = occurs_shaped (operator_at rows) (end_at rows) 48 h.written

    pub few : e < 48
    few = omega (arith, shaped.some, shaped.inside)

    pub held_end : end_at rows e ≤ 48
    held_end = shaped.inside

    pub held-some : e < end_at rows e
    held-some = shaped.some

    pub held-placed : Placed rows e
    held-placed = placed rows 48 e (omega arith) few (shaped_fits (operator_at rows) (end_at rows) 48 shaped)

    -- the rows have a formula at each number inside e, which ends no later
    pub held-inside : (k : ℕ) → e ≤ k → k < end_at rows e → FormulaAt rows k
    held-inside k l m =
        let x = located (operator_at rows) (end_at rows) 48 h.written k l m in
        record { guards = x.guards; binders = x.binders; subformula = x.subformula; written = x.stands }

    pub nested : (k : ℕ) → e ≤ k → k < end_at rows e → end_at rows k ≤ end_at rows e
    nested = occurs_nested (operator_at rows) (end_at rows) 48 h.written

    -- what the operator at e says of its operands
    operands : (op : Operator) → operator_at rows e ≡ op → Operands (operator_at rows) (end_at rows) 48 e op
    operands op q = subst (Operands (operator_at rows) (end_at rows) 48 e) q shaped.operands

    pub pair-operands : {o : Bool} {l r : ℕ} → operator_at rows e ≡ Operator.pair o l r → Pair (operator_at rows) (end_at rows) 48 e l r
    pair-operands {o} {l} {r} q = operands (Operator.pair o l r) q

    pub next-operand : {l : ℕ} → operator_at rows e ≡ Operator.next l → Single (operator_at rows) (end_at rows) 48 e l
    next-operand {l} q = operands (Operator.next l) q

    pub fix-operand : {g : Bool} (x : Fixes rows g e) → Single (operator_at rows) (end_at rows) 48 e x.body
    fix-operand {g} x = operands (Operator.fix g x.body) x.is

-- the numbers inside e but e itself have fewer subformulas
operand : (rows : List ℕ) (e : ℕ) → FormulaAt rows e → (k : ℕ) → e < k → k < end_at rows e → OperandAt rows e k
operand rows e h k l m =
    let inner : FormulaAt rows k = held-inside rows e h k (omega arith) m in
    record { held = inner; smaller = omega (arith, nested rows e h k (omega arith) m, held-some rows k inner) }

module _ (rows : List ℕ) (e : ℕ) (h : FormulaAt rows e) where
  pub left-smaller : {o : Bool} {l r : ℕ} → operator_at rows e ≡ Operator.pair o l r → OperandAt rows e l
  left-smaller {o} {l} q =
      let p = pair-operands rows e h q in
      operand rows e h l (omega (arith, p.first)) (omega (arith, p.order, p.inside))

  pub right-smaller : {o : Bool} {l r : ℕ} → operator_at rows e ≡ Operator.pair o l r → OperandAt rows e r
  right-smaller {o} {l} {r} q =
      let p = pair-operands rows e h q in
      operand rows e h r (omega (arith, p.first, p.order)) p.inside

  pub next-smaller : {l : ℕ} → operator_at rows e ≡ Operator.next l → OperandAt rows e l
  next-smaller {l} q =
      let p = next-operand rows e h q in
      operand rows e h l (omega (arith, p.first)) p.inside

  pub body-smaller : {g : Bool} → Fixes rows g e → OperandAt rows e (e + 1)
  body-smaller x =
      let p = fix-operand rows e h x in
      operand rows e h (e + 1) (omega arith) (omega (arith, p.first, p.inside))

-- what labelling asks leaves room for the lasso's words
pub room : (l : Labeller) {m : ℕ} → length l.letters.now ≤ m → WordsRoom (length (course l).letters) (course l).stem m
room l h = record { cycle = l.cycle; words = h }

-- the kind of a fixpoint, kept elsewhere
pub same-kind : {rows : List ℕ} {g h : Bool} {e : ℕ} → g ≡ h → Fixes rows h e → Fixes rows g e
same-kind q x = record { body = x.body; is = x.is ∙ ap (λ (g : Bool). Operator.fix g x.body) (sym q) }

-- The measure of a call, as one number: a subformula's size, paired with the rounds left, of which there are at most n. Three numbers above
-- n stand for a subformula whose rounds have not begun.
unfoldable pub paired : (n size left : ℕ) → ℕ
paired n size left = (n + 4) * size + left

paired_left : (n size i j : ℕ) → i < j → paired n size i < paired n size j
unfolding paired
paired_left n size i j h = omega arith

paired_size : (n small large i : ℕ) → small < large → paired n small (n + 3) < paired n large i
unfolding paired
paired_size n small large i h =
    let grown : (n + 4) * (small + 1) ≤ (n + 4) * large = mul-le-mul_left (n + 4) (omega arith) in
    omega (arith, mul-add (n + 4) small 1)

-- What the call for an operand of e asks, and the one for e itself with fewer rounds left.
module _ (l : Labeller) (e : ℕ) {t : ℕ} (left : ℕ) (is : paired (length l.letters.now) (size-at l.rows.now e) left ≡ t) where
  pub operand_call : {k : ℕ} (m : ℕ) → length l.letters.now ≤ m → OperandAt l.rows.now e k
      → (paired (length l.letters.now) (size-at l.rows.now k) (length l.letters.now + 3) < t) × LabelReady l k m
  operand_call {k} m long o =
      let n = length l.letters.now in
      rw (← is) (paired_size n (size-at l.rows.now k) (size-at l.rows.now e) left o.smaller, record { held = o.held; words = long })

  pub same_call : {Q : Type 0} (i : ℕ) → i < left → Q → (paired (length l.letters.now) (size-at l.rows.now e) i < t) × Q
  same_call i less q = rw (← is) (paired_left (length l.letters.now) (size-at l.rows.now e) i left less, q)
