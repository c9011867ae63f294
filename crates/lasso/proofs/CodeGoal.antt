-- The goal of a fixpoint's rounds: the final sets of all that is inside it. Each operator keeps them (Consistent), so no pass goes past
-- them. They are not passed at the start, where a column is all g, or that of a closed subformula, which is labelled; nor behind a
-- round, since the body's sets are monotone in the fixpoint's. Assumes nothing.
use Rattle.std.proofs.Common.{◌≡◌, refl, sym, ap, subst, ◌∙◌, Bool, true, false, cond, List, [], ◌∷◌, map, ℕ, suc, ◌+◌, ◌-◌, ◌≤◌, ◌<◌}
use Rattle.std.proofs.Common.{arith, length, get_or, get_or-append-add}
use native.Mathlib.Decide.{dec_lt}
use lib.ListN.{length-map, get_or-append}
use Rattle.base.specs.Bits.{bit}
use Rattle.base.specs.Sets.{Toward}
use Rattle.base.proofs.ListLaws.{Each, each_at, each_of, each_left, each_right}
use Rattle.base.proofs.NumberLaws.{values_at, values_length}
use Rattle.base.proofs.Inside.{inside-at}
use Rattle.formula.specs.Formula.{Formula, size}
use Rattle.formula.specs.Table.{Operator, table_from}
use Rattle.formula.specs.Rows.{operator_at, end_at}
use Rattle.formula.specs.Occurrence.{Guards, Closed, nothing}
use Rattle.formula.proofs.Guarded.{guarded-closed}
use Rattle.formula.proofs.Limits.{size-some}
use Rattle.formula.proofs.WellFormed.{length-table, Operands, located, occurs_shaped, occurs_nested}
use Rattle.lasso.specs.Lasso.{Lasso, Positions, holds, sets}
use Rattle.lasso.specs.Inner.{said, FormulaInRows, WordsRoom, Shut, Open, Movable, column, columns, ClosedKnown, BitsFilled}
use Rattle.lasso.specs.Inner.{Names, Moves}
use Rattle.lasso.specs.Inner.{Under, SetsKept, goal}
use Rattle.lasso.proofs.Monotone.{SetsWithin, within_refl, within-at, monotone_sets}
use Rattle.lasso.proofs.Fixpoint.{length_approximant, fixed}
use Rattle.lasso.proofs.Consistent.{says, true_at, ConsistentAt, SetsAround, Right, right-from, length-sets, successor}
use Rattle.lasso.proofs.CodeWritten.{written_end, written-left, written-right, written_next, written-body}
use Rattle.lasso.proofs.CodeColumns.{column-length, column-at, columns-sized}
use Rattle.lasso.proofs.CodeClosed.{alone-sets}
use Rattle.lasso.proofs.Moves.{moves_refl, moves-same, moves-start, toward_of}

-- what an operator says of sets, by the truth of subformulas at a position and at its successor
says-said : (c : Lasso) (ss : List Positions) (i : ℕ) (op : Operator)
    → says c ss i op ≡ said op (get_or c.letters i 0) (λ k. true_at ss k i) (λ k. true_at ss k (successor c i))
says-said c ss i (Operator.leaf l) = refl
says-said c ss i (Operator.variable m) = refl
says-said c ss i (Operator.pair o l r) = refl
says-said c ss i (Operator.next l) = refl
says-said c ss i (Operator.fix g l) = refl

-- the operands of what stands at k are numbers inside it, and a variable's binder stands before it
operands-names : (rows : List ℕ) (k hi : ℕ) (op : Operator) → Operands (operator_at rows) (end_at rows) 48 k op → k < hi
    → end_at rows k ≤ hi
    → Names hi op
operands-names rows k hi (Operator.leaf l) o h m = tt
operands-names rows k hi (Operator.variable v) o h m = omega (arith, o.before)
operands-names rows k hi (Operator.pair e l r) o h m = (omega (arith, o.order, o.inside), omega (arith, o.inside))
operands-names rows k hi (Operator.next l) o h m = omega (arith, o.inside)
operands-names rows k hi (Operator.fix g l) o h m = omega (arith, o.inside)

-- the sets of enclosing fixpoints, whose numbers are before e, among sets that begin with the columns of these numbers
outer-around : (ss : List Positions) (column-of : ℕ → Positions) (e : ℕ) → ((k : ℕ) → k < e → get_or ss k [] ≡ column-of k)
    → (bs : List ℕ) → ((d : ℕ) → d < length bs → get_or bs d 0 < e) → SetsAround ss bs (map column-of bs)
outer-around ss column-of e at [] h = SetsAround.none
outer-around ss column-of e at (b ∷ bs) h =
    SetsAround.put (at b (h 0 (omega arith))) (outer-around ss column-of e at bs (λ d l. h (suc d) (omega arith)))

module _ (rows : List ℕ) (c : Lasso) (ss : List Positions) where
  -- a subformula at k, with its sets among ss
  record SubformulaFound (k : ℕ) : Type 0 where
    pub guards : Guards
    pub binders : List ℕ
    pub subformula : Formula
    pub around : List Positions
    pub written : FormulaInRows rows k guards binders subformula
    pub sits : Each (ConsistentAt ss) k (sets c subformula around)

  -- at e, or behind it; before a number, or from it on
  or_behind : (e k : ℕ) → e ≤ k → SubformulaFound e → (e + 1 ≤ k → SubformulaFound k) → SubformulaFound k
  or_behind e k l here more = by (dec_lt e k)
    where
      by : Dec (e < k) → SubformulaFound k
      by (yes q) = more (omega arith)
      by (no q) = let same : k ≡ e = omega arith in rw same here

  either_side : (mid k : ℕ) → (k < mid → SubformulaFound k) → (mid ≤ k → SubformulaFound k) → SubformulaFound k
  either_side mid k left right = by (dec_lt k mid)
    where
      by : Dec (k < mid) → SubformulaFound k
      by (yes q) = left q
      by (no q) = right (omega arith)

  abbrev GoalInside : Formula → ℕ → Type 0
  GoalInside f e = (k : ℕ) → e ≤ k → k < e + size f → SubformulaFound k

  module _ (e : ℕ) (s : Guards) (bs : List ℕ) (ρ : List Positions) (f : Formula) (h : FormulaInRows rows e s bs f)
      (at : Each (ConsistentAt ss) e (sets c f ρ)) where
    first : SubformulaFound e
    first = record { guards = s; binders = bs; subformula = f; around = ρ; written = h; sits = at }

  found : (f : Formula) (e : ℕ) (s : Guards) (bs : List ℕ) (ρ : List Positions) → FormulaInRows rows e s bs f
      → Each (ConsistentAt ss) e (sets c f ρ)
      → GoalInside f e
  found (Formula.leaf x) e s bs ρ h at k l m = or_behind e k l (first e s bs ρ (Formula.leaf x) h at) (λ q. absurd (omega arith))
  found (Formula.variable d) e s bs ρ h at k l m = or_behind e k l (first e s bs ρ (Formula.variable d) h at) (λ q. absurd (omega arith))
  found (Formula.pair o a b) e s bs ρ h at k l m =
      or_behind e k l (first e s bs ρ (Formula.pair o a b) h at)
      (λ q. either_side (e + 1 + size a) k
      (found a (e + 1) s bs ρ (written-left rows h)
      (each_left (ConsistentAt ss) (e + 1) (sets c a ρ) (sets c b ρ) at.1) k q)
      (λ r. found b (e + 1 + size a) s bs ρ (written-right rows h)
      (each_right (ConsistentAt ss) (e + 1) (e + 1 + size a) (sets c a ρ) (sets c b ρ) (ap (e + 1 +◌) (length-sets c a ρ)) at.1) k r
      (omega arith)))
  found (Formula.next a) e s bs ρ h at k l m =
      or_behind e k l (first e s bs ρ (Formula.next a) h at)
      (λ q. found a (e + 1) (map (λ _. true) s) bs ρ (written_next rows h) at.1 k q (omega arith))
  found (Formula.fix g a) e s bs ρ h at k l m =
      or_behind e k l (first e s bs ρ (Formula.fix g a) h at)
      (λ q. found a (e + 1) (false ∷ s) (e ∷ bs) (holds c (Formula.fix g a) ρ ∷ ρ) (written-body rows h) at.1 k q (omega arith))

-- the formula f stands at e, inside fixpoints that have their columns of the words w for sets
module _ (rows : List ℕ) (c : Lasso) (w : List ℕ) (room : WordsRoom (length c.letters) c.stem (length w)) {e : ℕ} {s : Guards}
    {bs : List ℕ} {f : Formula} (h : FormulaInRows rows e s bs f) where
  abbrev n : ℕ
  n = length c.letters

  abbrev ρ : List Positions
  ρ = map (column n w) bs

  abbrev ss : List Positions
  ss = goal c w e bs f

  abbrev hi : ℕ
  hi = e + size f

  -- below e the goal has the columns, from e on the sets
  goal-below : (k : ℕ) → k < e → get_or ss k [] ≡ column n w k
  goal-below k l =
      get_or-append (columns n w 0 e) (sets c f ρ) [] k (omega (arith, values_length (column n w) 0 e))
      ∙ values_at (column n w) 0 e k [] l
      ∙ ap (column n w) {x = 0 + k} {y = k} (omega arith)

  goal-from : (j : ℕ) → get_or ss (e + j) [] ≡ get_or (sets c f ρ) j []
  goal-from j =
      ap (λ (m : ℕ). get_or ss (m + j) []) (sym (values_length (column n w) 0 e)) ∙ get_or-append-add (columns n w 0 e) (sets c f ρ) j []

  goal_sits : Each (ConsistentAt ss) e (sets c f ρ)
  goal_sits = each_of (ConsistentAt ss) e (sets c f ρ) [] (λ j l. goal-from j)

  pub closed : Closed (length ρ) f
  closed =
      let same : length s ≡ length ρ = h.scoped ∙ sym (length-map bs (column n w)) in
      subst (λ (k : ℕ). Closed k f) same (guarded-closed s f h.guarded)

  -- each operator keeps the goal
  right-at : (k : ℕ) → e ≤ k → k < hi → Right c ss k (operator_at rows k)
  right-at k l m =
      let around : SetsAround ss bs ρ = outer-around ss (column n w) e goal-below bs (λ d q. (h.enclosed d q).before) in
      let rights : Each (Right c ss) e (table_from e bs f) =
      right-from c (omega (arith, room.cycle)) ss f e bs ρ closed (columns-sized n w room.words bs) around goal_sits in
      let few : k - e < length (table_from e bs f) = omega (arith, length-table e bs f) in
      let there : k ≡ e + (k - e) = omega arith in
      rw there
      (subst (Right c ss (e + (k - e))) (sym (h.operators.at (k - e) few))
      (each_at (Right c ss) e (table_from e bs f) nothing rights (k - e) few))

  names_at : (k : ℕ) → e ≤ k → k < hi → Names hi (operator_at rows k)
  names_at k l m =
      let last : end_at rows e ≡ hi = written_end rows h in
      let x = located (operator_at rows) (end_at rows) 48 h k l (omega arith) in
      operands-names rows k hi (operator_at rows k) (occurs_shaped (operator_at rows) (end_at rows) 48 x.stands).operands m
      (omega (arith, occurs_nested (operator_at rows) (end_at rows) 48 h k l (omega arith)))

  pub goal-keeps : (list : List ℕ) → Movable rows e list → SetsKept rows c list hi ss
  goal-keeps list m =
      let last : end_at rows e ≡ hi = written_end rows h in
      record {
        names = λ j l. let q = m.inside j l in names_at (get_or list j 0) q.0 (omega (arith, q.1));
        right = λ j l i k.
            let q = m.inside j l in
            right-at (get_or list j 0) q.0 (omega (arith, q.1)) i k ∙ says-said c ss i (operator_at rows (get_or list j 0));
      }

  -- where a closed subformula inside e is labelled, its columns are the goal's
  closed-column : ClosedKnown rows c (e + 1) (end_at rows e) w → (k : ℕ) → Shut rows e k → k < hi → get_or ss k [] ≡ column n w k
  closed-column known k shut l =
      let m = shut.number in
      let last : end_at rows e ≡ hi = written_end rows h in
      let x = found rows c ss f e s bs ρ h goal_sits m (omega (arith, shut.behind)) (omega (arith, shut.before)) in
      let g = x.subformula in
      let end : end_at rows m ≡ m + size g = written_end rows x.written in
      let few : k - m < size g = omega (arith, shut.around, shut.before) in
      let shown : columns n w m (size g) ≡ sets c g x.around =
      known.shown m (omega (arith, shut.behind)) (omega (arith, shut.before)) shut.alone g x.guards x.binders x.written
      ∙ alone-sets rows c shut.alone x.written [] x.around in
      let at : k ≡ m + (k - m) = omega (arith, shut.before) in
      ap (λ (j : ℕ). get_or ss j []) at
      ∙ each_at (ConsistentAt ss) m (sets c g x.around) [] x.sits (k - m) (omega (arith, length-sets c g x.around))
      ∙ ap (λ (l : List Positions). get_or l (k - m) []) (sym shown)
      ∙ values_at (column n w) m (size g) (k - m) [] few
      ∙ ap (column n w) (sym at)

  -- a column that is the goal's is not past it
  same-under : (g : Bool) (v : List ℕ) → n ≤ length v → (k i : ℕ) → i < n → column n v k ≡ get_or ss k []
      → Moves g (bit (get_or v i 0) k) (get_or (get_or ss k []) i false)
  same-under g v long k i l q =
      moves-same g (bit (get_or v i 0) k) (get_or (get_or ss k []) i false)
      (sym (column-at n k v long i l) ∙ ap (λ (x : Positions). get_or x i false) q)

  -- the start: every column that the rounds move has g at each position
  pub goal-start : (g : Bool) (mask : ℕ) (v : List ℕ) → Open rows e mask → BitsFilled n mask g w v
      → ClosedKnown rows c (e + 1) (end_at rows e) w
      → Under n g ss hi v
  goal-start g mask v o filled known = record { at = λ k l i m. by k l i m (bit mask k) refl }
    where
      by : (k : ℕ) → k < hi → (i : ℕ) → i < n → (b : Bool) → bit mask k ≡ b → Moves g (bit (get_or v i 0) k)
          (get_or (get_or ss k []) i false)
      by k l i m true q =
          let is : bit (get_or v i 0) k ≡ g = filled.bits i m k ∙ ap (λ (b : Bool). cond b g (bit (get_or w i 0) k)) q in
          rw is (moves-start g (get_or (get_or ss k []) i false))
      by k l i m false q =
          let is : bit (get_or v i 0) k ≡ bit (get_or w i 0) k = filled.bits i m k ∙ ap (λ (b : Bool). cond b g (bit (get_or w i 0) k)) q in
          rw is (same-under g w room.words k i m (kept (dec_lt k e)))
        where
          kept : Dec (k < e) → column n w k ≡ get_or ss k []
          kept (yes r) = sym (goal-below k r)
          kept (no r) =
              let last : end_at rows e ≡ hi = written_end rows h in
              sym (closed-column known k (o.others k (omega arith) (omega arith) q) l)

-- the sets of a body move with the fixpoint's
sets_move : (c : Lasso) (g : Bool) (a : Formula) (ρ : List Positions) (s t : Positions) → Toward g s t → (j i : ℕ)
    → Moves g (get_or (get_or (sets c a (s ∷ ρ)) j []) i false) (get_or (get_or (sets c a (t ∷ ρ)) j []) i false)
sets_move c false a ρ s t h j i = inside-at (within-at (monotone_sets c a (SetsWithin.put h (within_refl ρ))) j) i
sets_move c true a ρ s t h j i = inside-at (within-at (monotone_sets c a (SetsWithin.put h (within_refl ρ))) j) i

-- the same of a fixpoint
module _ (rows : List ℕ) (c : Lasso) (w : List ℕ) (room : WordsRoom (length c.letters) c.stem (length w)) {g : Bool} {e : ℕ}
    {s : Guards} {bs : List ℕ} {a : Formula} (h : FormulaInRows rows e s bs (Formula.fix g a)) where
  abbrev n₁ : ℕ
  n₁ = length c.letters

  abbrev f : Formula
  f = Formula.fix g a

  -- what is to be shown of bit k of the words y at position i
  abbrev Good : List ℕ → ℕ → ℕ → Type 0
  Good y k i = Moves g (bit (get_or y i 0) k) (get_or (get_or (goal c w e bs f) k []) i false)

  abbrev outer : List Positions
  outer = map (column n₁ w) bs

  -- the set that the rounds come to
  abbrev pub final : Positions
  final = holds c f outer

  final_at : get_or (goal c w e bs f) e [] ≡ final
  final_at = ap (λ (k : ℕ). get_or (goal c w e bs f) k []) {x = e} {y = e + 0} (omega arith) ∙ goal-from rows c w room h 0

  pub final_length : length final ≡ n₁
  final_length =
      length_approximant c (omega (arith, room.cycle)) a outer (closed rows c w room h) (columns-sized n₁ w room.words bs) g n₁

  -- the fixpoint's column is not past its final set
  pub own_within : (v : List ℕ) → n₁ ≤ length v → Under n₁ g (goal c w e bs f) (e + size f) v
      → Toward g (column n₁ v e) final
  own_within v long u =
      toward_of g (column n₁ v e) final (column-length n₁ e v long ∙ sym final_length)
      (λ i l.
      let m : i < n₁ = omega (arith, column-length n₁ e v long) in
      subst (λ (b : Bool). Moves g b (get_or final i false)) (sym (column-at n₁ e v long i m))
      (subst (λ (t : Positions). Moves g (bit (get_or v i 0) e) (get_or t i false)) final_at (u.at e (omega (arith, size-some f)) i m)))

  -- behind a round: the words y have the body's sets for the fixpoint's set E, and the first of them for the fixpoint
  pub goal_round : (E : Positions) (y : List ℕ) → n₁ ≤ length y → Toward g E final
      → ((k : ℕ) → k < e → column n₁ y k ≡ column n₁ w k)
      → column n₁ y e ≡ holds c a (E ∷ outer)
      → columns n₁ y (e + 1) (size a) ≡ sets c a (E ∷ outer)
      → Under n₁ g (goal c w e bs f) (e + size f) y
  goal_round E y long near below own shown = record { at = λ k l i m. by k l i m (dec_lt k e) (dec_lt e k) }
    where
      -- by the column and by the set of the goal
      by_sets : (k i : ℕ) → i < n₁ → (t u : Positions) → column n₁ y k ≡ t → get_or (goal c w e bs f) k [] ≡ u
          → Moves g (get_or t i false) (get_or u i false) → Good y k i
      by_sets k i m t u p q r =
          subst (λ (b : Bool). Moves g b (get_or (get_or (goal c w e bs f) k []) i false))
          (ap (λ (t : Positions). get_or t i false) (sym p) ∙ column-at n₁ k y long i m)
          (subst (λ (x : Positions). Moves g (get_or t i false) (get_or x i false)) (sym q) r)

      first : (i : ℕ) → i < n₁ → Good y e i
      first i m =
          by_sets e i m (holds c a (E ∷ outer)) final own final_at
          (subst (λ (t : Positions). Moves g (get_or (holds c a (E ∷ outer)) i false) (get_or t i false))
          (fixed c (omega (arith, room.cycle)) a outer (closed rows c w room h) (columns-sized n₁ w room.words bs) g)
          (sets_move c g a outer E final near 0 i))

      inner : (k i : ℕ) → e < k → k < e + size f → i < n₁ → Good y k i
      inner k i p l m =
          let j = k - (e + 1) in
          let at : k ≡ e + 1 + j = omega arith in
          let next : k ≡ e + suc j = omega arith in
          by_sets k i m (get_or (sets c a (E ∷ outer)) j []) (get_or (sets c a (final ∷ outer)) j [])
          (ap (column n₁ y) at ∙ sym (values_at (column n₁ y) (e + 1) (size a) j [] (omega arith))
          ∙ ap (λ (t : List Positions). get_or t j []) shown)
          (ap (λ (x : ℕ). get_or (goal c w e bs f) x []) next ∙ goal-from rows c w room h (suc j))
          (sets_move c g a outer E final near j i)

      by : (k : ℕ) → k < e + size f → (i : ℕ) → i < n₁ → Dec (k < e) → Dec (e < k) → Good y k i
      by k l i m (yes q) r =
          let t = column n₁ w k in
          by_sets k i m t t (below k q) (goal-below rows c w room h k q) (moves_refl g (get_or t i false))
      by k l i m (no q) (yes r) = inner k i r l m
      by k l i m (no q) (no r) = let same : k ≡ e = omega arith in rw same (first i m)
