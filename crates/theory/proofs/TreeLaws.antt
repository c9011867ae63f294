-- The table of a guarded formula is lawful: what the theory needs of it is `Lawful`. And truth on the table, by the numbers of
-- fixpoints, is truth on the tree, by the depths of variables: where the binders' sets agree, so do the formula's. Assumes nothing.
use mathlib.Core.Path.{◌≡◌, refl, sym, ap, subst⁻¹}
use mathlib.Core.Bool.{Bool, false, cond}
use mathlib.Core.Logic.{◌⊎◌, inl, inr, ⊎_elim}
use mathlib.Core.List.Memᴰ
use mathlib.Core.List.{List, [], ◌∷◌, Memᴰ}
use Prim.Native.Nat.{ℕ, zero, suc, ◌≤◌, ◌<◌, ◌+◌}
use native.Mathlib.Omega.{arith}
use native.Mathlib.Decide.{dec_lt}
use lib.ListN.{length, get_or, get_or-eq_default}
use lib.Dec.{T}
use borrow.Author.Tests.{eq-eqb, ne_eqb}
use Rattle.formula.specs.Formula.{Leaf, Formula, size}
use Rattle.formula.specs.Table.{Operator, Table, table, ends_from, operator, is_fix}
use Rattle.formula.specs.Occurrence.{Guards, Ranged, Guarded, Occurs}
use Rattle.formula.proofs.Limits.{size-some}
use Rattle.formula.proofs.WellFormed.{sits_first, end_in, occurs_left, occurs_right, occurs_next, occurs_body, Single, Operands}
use Rattle.formula.proofs.WellFormed.{Shaped, each_shaped, occurs_whole, table-size}
use Rattle.lasso.specs.Lasso.{Lasso, Positions, leaf_at, holds as lasso-holds}
use Rattle.tableau.specs.Saturation.{moves}
use Rattle.tableau.specs.Transition.{next_of}
use Rattle.tableau.proofs.TransitionLaws.{next_is}
use Rattle.theory.proofs.Semantics.{PositionSet, Sets, put, Part, holds}
use Rattle.theory.proofs.Levels.{pair-moves, height, height_falls}
use Rattle.theory.proofs.Agreement.{orbit, Agree, agree_map, agree_combine, agree_before, agree_rounds}

-- What the theory needs of a table.
pub record Lawful (t : Table) : Type 0 where
  pub inside : (x y : ℕ) (b : Bool) → Memᴰ y (moves (operator t x) b) → (x < length t) × (y < length t)
  pub next-inside : (x y : ℕ) → Memᴰ y (next_of (operator t x)) → (x < y) × (y < length t)
  -- a move goes on to a later subformula, unless it goes from a variable to its binder
  pub ordered : (x y : ℕ) (b : Bool) → Memᴰ y (moves (operator t x) b)
      → (x < y) ⊎ ((operator t x ≡ Operator.variable y) × T (is_fix (operator t y)))
  pub signals : (x : ℕ) (p : Bool) (j : ℕ) → operator t x ≡ Operator.leaf (Leaf.signal p j) → j < 16
  -- moves within a transition come to an end
  pub height : ℕ → ℕ
  pub guarded : (x y : ℕ) (b : Bool) → Memᴰ y (moves (operator t x) b) → height y < height x

-- Truth on the table. A formula stands at number e, inside fixpoints of the given numbers.
module _ (t : Table) (end : ℕ → ℕ) (count : ℕ) where
  abbrev Match : ℕ → List ℕ → Sets → List Positions → Type 0
  Match n binders σ ρ = (i : ℕ) → i < length binders → Agree n (σ (get_or binders i 0)) (get_or ρ i [])

  record Means (e : ℕ) (binders : List ℕ) (f : Formula) : Type 0 where
    part : Part t e
    agrees : (c : Lasso) (h : c.stem < length c.letters) (σ : Sets) (ρ : List Positions) → Match (length c.letters) binders σ ρ
        → Agree (length c.letters) (holds t (orbit c h) part σ) (lasso-holds c f ρ)

  put_match : (n e : ℕ) (binders : List ℕ) (σ : Sets) (ρ : List Positions) (u : PositionSet) (s : Positions)
      → ((i : ℕ) → i < length binders → get_or binders i 0 < e)
      → Agree n u s → Match n binders σ ρ → Match n (e ∷ binders) (put σ e u) (s ∷ ρ)
  put_match n e binders σ ρ u s below a m zero j =
      record { long = a.long; same = λ i k. subst⁻¹ (λ (b : Bool). cond b (u i) (σ e i) ≡ get_or s i false) (eq-eqb e e refl) (a.same i k) }
  put_match n e binders σ ρ u s below a m (suc d) j =
      let b = m d (omega arith) in
      record {
        long = b.long;
        same = λ i k.
            subst⁻¹ (λ (z : Bool). cond z (u i) (σ (get_or binders d 0) i) ≡ get_or (get_or ρ d []) i false)
            (ne_eqb (get_or binders d 0) e (λ z. omega (arith, below d (omega arith)))) (b.same i k);
      }

  means : {e : ℕ} {guards : Guards} {binders : List ℕ} (f : Formula) → Occurs (operator t) end count e guards binders f → Means e binders f
  unfolding holds
  means (Formula.leaf l) h =
      record { part = Part.leaf l (sits_first h.operators); agrees = λ c k σ ρ m. agree_map (leaf_at l) c.letters }
  means {binders = binders} (Formula.variable d) h =
      record {
        part = Part.variable (get_or binders d 0) (sits_first h.operators);
        agrees = λ c k σ ρ m. m d (omega (arith, h.guarded.0, h.scoped));
      }
  means {e} {guards} {binders} (Formula.pair o a b) h =
      let x = means {e = e + 1} a (occurs_left (operator t) end count h) in
      let y = means {e = e + 1 + size a} b (occurs_right (operator t) end count h) in
      record {
        part = Part.pair o (sits_first h.operators) (omega arith) (omega arith) x.part y.part;
        agrees = λ c k σ ρ m. agree_combine o (length c.letters) _ _ _ _ (x.agrees c k σ ρ m) (y.agrees c k σ ρ m);
      }
  means {e} {guards} {binders} (Formula.next a) h =
      let x = means {e = e + 1} a (occurs_next (operator t) end count h) in
      record {
        part = Part.next (sits_first h.operators) (omega arith) x.part;
        agrees = λ c k σ ρ m. agree_before c.stem (length c.letters) k _ _ (x.agrees c k σ ρ m);
      }
  means {e} {guards} {binders} (Formula.fix g a) h =
      let x = means {e = e + 1} a (occurs_body (operator t) end count h) in
      record {
        part = Part.fix e g (sits_first h.operators) (omega arith) x.part;
        agrees = λ c k σ ρ m.
            agree_rounds (length c.letters) (length c.letters) _ _
            (λ u s d. x.agrees c k (put σ e u) (s ∷ ρ)
            (put_match (length c.letters) e binders σ ρ u s (λ i l. (h.enclosed i l).before) d m)) _ _
            (agree_map (λ _. g) c.letters);
      }

-- A guarded formula's table.
module _ (f : Formula) (guarded : Guarded [] f) (ranged : Ranged f) where
  abbrev t : Table
  t = table f

  abbrev end : ℕ → ℕ
  end = end_in (ends_from 0 f)

  whole : Occurs (operator t) end (size f) 0 [] [] f
  whole = occurs_whole (operator t) end f (λ e i. refl) (λ e i. refl) guarded ranged

  meaning : Means t end (size f) 0 [] f
  meaning = means t end (size f) f whole

  shaped : (x : ℕ) → x < size f → Shaped (operator t) end (size f) x
  shaped = each_shaped (operator t) end f (λ e i. refl) (λ e i. refl) guarded ranged

  -- what an operator's shape says of its moves
  abbrev Leads : ℕ → Operator → ℕ → Type 0
  Leads x o y = (y < size f) × ((x < y) ⊎ ((o ≡ Operator.variable y) × T (is_fix (operator t y))))

  leads : (x y : ℕ) (b : Bool) (o : Operator) → x < size f → end x ≤ size f → Operands (operator t) end (size f) x o
      → Memᴰ y (moves o b) → Leads x o y
  leads x y b (Operator.leaf l) h k s m = absurd (Memᴰ.not-nil m)
  leads x y b (Operator.variable i) h k s m =
      let q = Memᴰ.eq_of_singleton m in
      (omega (arith, s.before), inr (ap Operator.variable (sym q), subst⁻¹ (λ (i : ℕ). T (is_fix (operator t i))) q s.fixpoint))
  leads x y b (Operator.pair o l r) h k s m =
      ⊎_elim (λ (q : y ≡ l). (omega (arith, s.first, s.order, s.inside), inl (omega (arith, s.first))))
      (λ (q : y ≡ r). (omega (arith, s.inside), inl (omega (arith, s.first, s.order)))) (pair-moves o b m)
  leads x y b (Operator.next l) h k s m = absurd (Memᴰ.not-nil m)
  leads x y b (Operator.fix g l) h k s m = let q = Memᴰ.eq_of_singleton m in (omega (arith, s.inside), inl (omega (arith, s.first)))

  -- behind the table nothing leads on
  in_table : (x : ℕ) → (operator t x ≡ Operator.leaf (Leaf.constant false) → ⊥) → x < size f
  in_table x n =
      elim (dec_lt x (size f)) [
        | yes h ↦ h
        | no h ↦ absurd
            (n (get_or-eq_default t (Operator.leaf (Leaf.constant false)) (omega (arith, table-size f))))
      ]

  moves-inside : (x y : ℕ) (b : Bool) → Memᴰ y (moves (operator t x) b) → x < size f
  moves-inside x y b m = in_table x (λ q. Memᴰ.not-nil (rw q at m))

  moves_lead : (x y : ℕ) (b : Bool) → Memᴰ y (moves (operator t x) b) → Leads x (operator t x) y
  moves_lead x y b m =
      let h = moves-inside x y b m in
      let s = shaped x h in
      leads x y b (operator t x) h s.inside s.operands m

  next-leads : (x y : ℕ) → Memᴰ y (next_of (operator t x)) → (x < y) × (y < size f)
  next-leads x y m =
      let s = shaped x (in_table x (λ q. Memᴰ.not-nil (rw q at m))) in
      let o : Single (operator t) end (size f) x y = rw (next_is (operator t x) y m) at s.operands in
      (omega (arith, o.first), omega (arith, o.inside, s.inside))

  signal-small : (x : ℕ) (p : Bool) (j : ℕ) → operator t x ≡ Operator.leaf (Leaf.signal p j) → j < 16
  signal-small x p j q =
      let i : j ≤ 15 = rw q at (shaped x (in_table x (λ e. let z : ◌≡◌ {A = ℕ} 0 1 = cc in omega arith))).operands in omega arith

  pub lawful : Lawful t
  lawful =
      record {
        inside = λ x y b m. (omega (arith, table-size f, moves-inside x y b m), omega (arith, table-size f, (moves_lead x y b m).0));
        next-inside = λ x y m. let n = next-leads x y m in (n.0, omega (arith, table-size f));
        ordered = λ x y b m. (moves_lead x y b m).1;
        signals = signal-small;
        height = height (operator t) end f whole;
        guarded = λ x y b m. height_falls (operator t) end f whole x y b (moves-inside x y b m) (moves_lead x y b m).0 m;
      }

  pub whole_part : Part t 0
  whole_part = meaning.part

  pub whole_means : (c : Lasso) (h : c.stem < length c.letters) (σ : Sets)
      → holds t (orbit c h) whole_part σ 0 ≡ get_or (lasso-holds c f []) 0 false
  unfolding whole_part
  whole_means c h σ = (meaning.agrees c h σ [] (λ i j. absurd (omega arith))).same 0 (omega arith)

  pub table-some : 0 < length t
  table-some = omega (arith, table-size f, size-some f)
