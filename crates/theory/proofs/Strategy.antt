-- The argument behind completeness. Where a part is true there is a strategy: a region of subformulas at positions, won, and a choice at
-- each, such that every move from the region stays in it or comes to an outer set that is true there, and no least fixpoint comes back to
-- itself by moves that pass no smaller number. By recursion on the part: the operands' strategies are merged, at each subformula and
-- position the first that has won there; for a least fixpoint those of its rounds, whose number falls each time the fixpoint is passed; for
-- a greatest one that of its settled set serves. Assumes nothing.
use mathlib.Core.Path.{◌≡◌, refl, ap, ◌∙◌, subst, subst⁻¹}
use mathlib.Core.Bool.{Bool, true, false, not, cond, false≢true}
use mathlib.Core.Logic.{◌⊎◌, inl, inr, ⊎_elim}
use mathlib.Core.List.Memᴰ
use mathlib.Core.List.{Memᴰ}
use Prim.Native.Nat.{ℕ, zero, suc, ◌≤◌, ◌<◌}
use native.Mathlib.Omega.{arith}
use lib.Dec.{T, eqb, ltb}
use borrow.Author.Tests.{eqb-true, eq-eqb, ne_eqb, ltb-true, lt-ltb}
use Rattle.formula.specs.Table.{Operator, Table, operator}
use Rattle.lasso.specs.Lasso.{leaf_at, joined}
use Rattle.tableau.specs.Saturation.{moves}
use Rattle.tableau.specs.Transition.{next_of}
use Rattle.tableau.proofs.TransitionLaws.{asks}
use Rattle.profile.specs.Profiles.{is_least}
use Rattle.theory.proofs.Semantics.{LassoPositions, PositionSet, Sets, put, approximant, Part, holds, asks_leaf, Move, Move.within}
use Rattle.theory.proofs.Semantics.{Move.across, Path, Path.here, Path.step, LocallyTrue}
use Rattle.theory.proofs.Settle.{Sub, mono, put_mono, settled}

-- the first k below n with b k, or n
first_of : ℕ → (ℕ → Bool) → ℕ
first_of zero b = zero
first_of (suc n) b = cond (b zero) zero (suc (first_of n (λ k. b (suc k))))

first_le : (n : ℕ) (b : ℕ → Bool) (k : ℕ) → k < n → b k ≡ true → first_of n b ≤ k
unfolding first_of
first_le zero b k h e = absurd (omega arith)
first_le (suc n) b zero h e = rw e (omega arith)
first_le (suc n) b (suc k) h e = go (b zero) (first_le n (λ j. b (suc j)) k (omega arith) e)
  where
    go : (c : Bool) → first_of n (λ j. b (suc j)) ≤ k → cond c zero (suc (first_of n (λ j. b (suc j)))) ≤ suc k
    go true r = omega arith
    go false r = omega arith

first-is : (n : ℕ) (b : ℕ → Bool) → first_of n b < n → b (first_of n b) ≡ true
unfolding first_of
first-is zero b h = absurd (omega arith)
first-is (suc n) b h = go (b zero) refl h (first-is n (λ j. b (suc j)))
  where
    r : ℕ
    r = first_of n (λ j. b (suc j))

    go : (c : Bool) → b zero ≡ c → cond c zero (suc r) < suc n → (r < n → b (suc r) ≡ true) → b (cond c zero (suc r)) ≡ true
    go true e l f = e
    go false e l f = f (omega arith)

module _ (t : Table) (c : LassoPositions) where
  pub move_lt : {ch : ℕ → ℕ → Bool} {x p y q : ℕ} → p < c.count → Move t c ch x p y q → q < c.count
  move_lt h (within m e) = rw e h
  move_lt {p = p} h (across m e) = rw e (c.after_lt p h)

  move_by : {ch ch' : ℕ → ℕ → Bool} {x p y q : ℕ} → ch x p ≡ ch' x p → Move t c ch x p y q → Move t c ch' x p y q
  move_by {x = x} {y = y} g (within m e) = within (subst (λ (b : Bool). Memᴰ y (moves (operator t x) b)) g m) e
  move_by g (across m e) = across m e

  to-body : {ch : ℕ → ℕ → Bool} {e l p : ℕ} {g : Bool} → operator t e ≡ Operator.fix g l → Move t c ch e p l p
  to-body q = within (rw q (Memᴰ.head refl)) refl

  -- a fixpoint's one move
  pub body-only : {ch : ℕ → ℕ → Bool} {e l p y q : ℕ} {g : Bool} → operator t e ≡ Operator.fix g l → Move t c ch e p y q → (y ≡ l) × (q ≡ p)
  body-only d (within m e) = (Memᴰ.eq_of_singleton (rw d at m), e)
  body-only d (across m e) = absurd (Memᴰ.not-nil (rw d at m))

  least : (e : ℕ) {l : ℕ} → operator t e ≡ Operator.fix false l → T (is_least (operator t e))
  least e q = rw q tt

  -- A strategy from number first on. Out: the outer sets that are true, by fixpoint and position.
  pub record Strategy (first : ℕ) (Out : ℕ → ℕ → Type 0) : Type 0 where
    -- the region, and the choice at each or in it
    pub won : ℕ → PositionSet
    pub ch : ℕ → PositionSet
    pub low : (y q : ℕ) → Out y q → y < first
    pub inside : (x p : ℕ) → won x p ≡ true → first ≤ x
    -- leaves are true; moves stay in the region or lead out; no least fixpoint comes back to itself
    pub fair : (x p : ℕ) → p < c.count → won x p ≡ true → LocallyTrue t c x p
    pub goes : (x p y q : ℕ) → p < c.count → won x p ≡ true → Move t c ch x p y q → (won y q ≡ true) ⊎ Out y q
    pub good : (m l p : ℕ) → p < c.count → operator t m ≡ Operator.fix false l → m < l → won m p ≡ true → Path t c ch m l p m p → ⊥

  -- one that has won its first subformula wherever a set is true
  pub record Win (first : ℕ) (Out : ℕ → ℕ → Type 0) (at : PositionSet) : Type 0 where
    pub plan : Strategy first Out
    pub root : (p : ℕ) → p < c.count → at p ≡ true → plan.won first p ≡ true

  -- the same, from a smaller number on and with more outer sets
  relax : {first first' : ℕ} {Out Out' : ℕ → ℕ → Type 0} → first' ≤ first → ((y q : ℕ) → Out y q → Out' y q)
      → ((y q : ℕ) → Out' y q → y < first') → Strategy first Out → Strategy first' Out'
  relax h f g s =
      record {
        won = s.won;
        ch = s.ch;
        low = g;
        inside = λ x p v. omega (arith, s.inside x p v);
        fair = s.fair;
        goes = λ x p y q l v m. ⊎_elim (λ a. inl a) (λ o. inr (f y q o)) (s.goes x p y q l v m);
        good = s.good;
      }

  -- Choices that agree where a strategy has won keep to it.
  keep : {first : ℕ} {Out : ℕ → ℕ → Type 0} (s : Strategy first Out) (ch : ℕ → PositionSet) → ((x p : ℕ) → first ≤ x → ch x p ≡ s.ch x p)
      → {m x p y q : ℕ} → first ≤ m → p < c.count → s.won x p ≡ true → Path t c ch m x p y q → Path t c s.ch m x p y q
  keep s ch g h l v here = here
  keep s ch g {m} {x} {p} h l v (step {y = y} {q = q} d b a) =
      let d' : Move t c s.ch x p y q = move_by (g x p (s.inside x p v)) d in
      let v' : s.won y q ≡ true = ⊎_elim (λ r. r) (λ o. absurd (omega (arith, s.low y q o))) (s.goes x p y q l v d') in
      step d' b (keep s ch g h (move_lt l d) v' a)

  -- Several strategies together: at each subformula and position the first that has won there.
  module _ {first : ℕ} (Out : ℕ → ℕ → ℕ → Type 0) (n : ℕ) (s : (k : ℕ) → Strategy first (Out k)) where
    rank : ℕ → ℕ → ℕ
    rank x p = first_of n (λ k. (s k).won x p)

    many_won : ℕ → PositionSet
    many_won x p = ltb (rank x p) n

    many_ch : ℕ → PositionSet
    many_ch x p = (s (rank x p)).ch x p

    many_in : (k x p : ℕ) → k < n → (s k).won x p ≡ true → (many_won x p ≡ true) × (rank x p ≤ k)
    unfolding rank many_won
    many_in k x p h v = let r = first_le n (λ j. (s j).won x p) k h v in (lt-ltb (rank x p) n (omega arith), r)

    many_of : (x p : ℕ) → many_won x p ≡ true → ((s (rank x p)).won x p ≡ true) × (rank x p < n)
    unfolding rank many_won
    many_of x p v = let r = ltb-true _ _ v in (first-is n (λ k. (s k).won x p) r, r)

    many-goes : (x p y q : ℕ) → p < c.count → many_won x p ≡ true → Move t c many_ch x p y q
        → ((many_won y q ≡ true) × (rank y q ≤ rank x p)) ⊎ Out (rank x p) y q
    unfolding many_ch
    many-goes x p y q l v m =
        let r = many_of x p v in ⊎_elim (λ a. inl (many_in (rank x p) y q r.1 a)) (λ o. inr o)
        ((s (rank x p)).goes x p y q l r.0 (move_by refl m))

    many-stay : (x p y q : ℕ) → p < c.count → many_won x p ≡ true → first ≤ y → Move t c many_ch x p y q
        → (many_won y q ≡ true) × (rank y q ≤ rank x p)
    many-stay x p y q l v h m = ⊎_elim (λ r. r) (λ o. absurd (omega (arith, (s (rank x p)).low y q o))) (many-goes x p y q l v m)

    many_falls : {m x p y q : ℕ} → first ≤ m → p < c.count → many_won x p ≡ true → Path t c many_ch m x p y q → rank y q ≤ rank x p
    many_falls h l v here = omega arith
    many_falls {x = x} {p = p} h l v (step {y = y} {q = q} d b a) =
        let r = many-stay x p y q l v (omega arith) d in
        omega (arith, many_falls h (move_lt l d) r.0 a)

    many-filter : {m x p y q : ℕ} (k : ℕ) → first ≤ m → p < c.count → many_won x p ≡ true → rank x p ≤ k → k ≤ rank y q
        → Path t c many_ch m x p y q → Path t c (s k).ch m x p y q
    unfolding many_ch
    many-filter k h l v g g' here = here
    many-filter {x = x} {p = p} k h l v g g' (step {y = y} {q = q} d b a) =
        let r = many-stay x p y q l v (omega arith) d in
        let l' = move_lt l d in
        let f = many_falls h l' r.0 a in
        step (move_by (ap (λ (i : ℕ). (s i).ch x p) {x = rank x p} {y = k} (omega arith)) d) b (many-filter k h l' r.0 (omega arith) g' a)

    pub many : Strategy first (λ y q. (k : ℕ) × (k < n) × Out k y q)
    many =
        record {
          won = many_won;
          ch = many_ch;
          low = λ y q o. (s o.0).low y q o.2;
          inside = λ x p v. (s (rank x p)).inside x p (many_of x p v).0;
          fair = λ x p l v. (s (rank x p)).fair x p l (many_of x p v).0;
          goes = λ x p y q l v m. ⊎_elim (λ a. inl a.0) (λ o. inr (rank x p, (many_of x p v).1, o)) (many-goes x p y q l v m);
          good = λ m l p h e g v a.
              let r = many_of m p v in
              let i = (s (rank m p)).inside m p r.0 in
              let d = many-stay m p l p h v (omega arith) (to-body e) in
              (s (rank m p)).good m l p h e g r.0 (many-filter (rank m p) i h d.0 d.1 (omega arith) a);
        }

  -- What it takes to put one subformula e more before a strategy, won at the positions of at. Out': where the strategy leads out to, which
  -- may be e itself.
  record Extension {first : ℕ} {Out' : ℕ → ℕ → Type 0} (s : Strategy first Out') (e : ℕ) (Out : ℕ → ℕ → Type 0) (at : PositionSet) :
      Type 0 where
    under : e < first
    ch : ℕ → PositionSet
    agree : (x p : ℕ) → first ≤ x → ch x p ≡ s.ch x p
    low : (y q : ℕ) → Out y q → y < e
    back : (y q : ℕ) → Out' y q → Out y q ⊎ ((y ≡ e) × (at q ≡ true))
    fair : (p : ℕ) → p < c.count → at p ≡ true → LocallyTrue t c e p
    goes : (p y q : ℕ) → p < c.count → at p ≡ true → Move t c ch e p y q → (s.won y q ≡ true) ⊎ Out y q
    good : (l p : ℕ) → p < c.count → operator t e ≡ Operator.fix false l → at p ≡ true → Path t c ch e l p e p → ⊥

  module _ {first : ℕ} {Out' : ℕ → ℕ → Type 0} (s : Strategy first Out') {e : ℕ} {Out : ℕ → ℕ → Type 0} (at : PositionSet)
      (n : Extension s e Out at) where
    ext_won : ℕ → PositionSet
    ext_won x p = cond (eqb x e) (at p) (s.won x p)

    abbrev Old : ℕ → ℕ → Type 0
    Old x p = s.won x p ≡ true

    abbrev New : ℕ → ℕ → Type 0
    New x p = (x ≡ e) × (at p ≡ true)

    ext_new : (p : ℕ) → at p ≡ true → ext_won e p ≡ true
    unfolding ext_won
    ext_new p v = rw (eq-eqb e e refl) v

    ext_old : (x p : ℕ) → Old x p → ext_won x p ≡ true
    unfolding ext_won
    ext_old x p v = rw (ne_eqb x e (λ d. omega (arith, n.under, s.inside x p v))) v

    ext_of : (x p : ℕ) → ext_won x p ≡ true → New x p ⊎ Old x p
    unfolding ext_won
    ext_of x p v = by (eqb x e) refl v
      where
        by : (b : Bool) → eqb x e ≡ b → cond b (at p) (s.won x p) ≡ true → New x p ⊎ Old x p
        by true b d = inl (eqb-true x e b, d)
        by false b d = inr d

    ext_goes : (x p y q : ℕ) → p < c.count → New x p ⊎ Old x p → Move t c n.ch x p y q → (ext_won y q ≡ true) ⊎ Out y q
    ext_goes x p y q l (inl v) m =
        ⊎_elim (λ a. inl (ext_old y q a)) (λ o. inr o) (n.goes p y q l v.1 (subst (λ (z : ℕ). Move t c n.ch z p y q) v.0 m))
    ext_goes x p y q l (inr v) m =
        ⊎_elim (λ a. inl (ext_old y q a))
        (λ o. ⊎_elim (λ r. inr r) (λ r. inl (subst⁻¹ (λ (z : ℕ). ext_won z q ≡ true) r.0 (ext_new q r.1))) (n.back y q o))
        (s.goes x p y q l v (move_by (n.agree x p (s.inside x p v)) m))

    ext_good : (m l p : ℕ) → p < c.count → operator t m ≡ Operator.fix false l → m < l → New m p ⊎ Old m p → Path t c n.ch m l p m p → ⊥
    ext_good m l p h q g (inl v) a =
        n.good l p h (subst (λ (z : ℕ). operator t z ≡ Operator.fix false l) v.0 q) v.1
        (subst (λ (z : ℕ). Path t c n.ch z l p z p) v.0 a)
    ext_good m l p h q g (inr v) a =
        let i = s.inside m p v in
        let v' : Old l p = ⊎_elim (λ r. r) (λ o. absurd (omega (arith, s.low l p o))) (s.goes m p l p h v (to-body q)) in
        s.good m l p h q g v (keep s n.ch n.agree i h v' a)

    ext_plan : Strategy e Out
    ext_plan =
        record {
          won = ext_won;
          ch = n.ch;
          low = n.low;
          inside = λ x p v. ⊎_elim (λ r. omega arith) (λ r. omega (arith, n.under, s.inside x p r)) (ext_of x p v);
          fair = λ x p l v. ⊎_elim (λ r. subst⁻¹ (λ (z : ℕ). LocallyTrue t c z p) r.0 (n.fair p l r.1)) (λ r. s.fair x p l r)
              (ext_of x p v);
          goes = λ x p y q l v m. ext_goes x p y q l (ext_of x p v) m;
          good = λ m l p h q g v a. ext_good m l p h q g (ext_of m p v) a;
        }

    extended : Win e Out at
    unfolding ext_plan
    extended = record { plan = ext_plan; root = λ p h v. ext_new p v }

  none : (e : ℕ) {Out : ℕ → ℕ → Type 0} → ((y q : ℕ) → Out y q → y < e) → Strategy (suc e) Out
  none e low =
      record {
        won = λ x p. false;
        ch = λ x p. false;
        low = λ y q o. omega (arith, low y q o);
        inside = λ x p v. absurd (false≢true v);
        fair = λ x p l v. absurd (false≢true v);
        goes = λ x p y q l v m. absurd (false≢true v);
        good = λ m l p h q g v a. absurd (false≢true v);
      }

  -- a leaf or a variable: its moves lead out
  single : {e : ℕ} {Out : ℕ → ℕ → Type 0} (o : Operator) → operator t e ≡ o → (T (is_least o) → ⊥) → ((y q : ℕ) → Out y q → y < e)
      → (at : PositionSet) → ((p : ℕ) → at p ≡ true → T (asks o (c.letter p)))
      → ((y : ℕ) → Memᴰ y (next_of o) → ⊥) → ((p y : ℕ) → at p ≡ true → Memᴰ y (moves o false) → Out y p) → Win e Out at
  unfolding none
  single {e} {Out} o q n low at fair no_next goes =
      extended (none e low) at
      (record {
        under = omega arith;
        ch = λ x p. false;
        agree = λ x p h. refl;
        low = low;
        back = λ y z d. inl d;
        fair = λ p h v. rw q (fair p v);
        goes = λ p y z h v m. inr (by p y z v m);
        good = λ l p h q' v a. n (rw q at (least e q'));
      })
    where
      by : (p y z : ℕ) → at p ≡ true → Move t c (λ x p. false) e p y z → Out y z
      by p y z v (within m d) = rw d (goes p y v (rw q at m))
      by p y z v (across m d) = absurd (no_next y (rw q at m))

  two : {f : ℕ} {Out : ℕ → ℕ → Type 0} → Strategy f Out → Strategy f Out → ℕ → Strategy f Out
  two a b zero = a
  two a b (suc k) = b

  -- an or or an and: at an or the choice is left where the left operand is true
  module _ {e l r : ℕ} {Out : ℕ → ℕ → Type 0} (h : e < l) (k : e < r) (low : (y q : ℕ) → Out y q → y < e) {s u : PositionSet}
      (a : Win l Out s) (b : Win r Out u) where
    abbrev both : Strategy (suc e) (λ y q. (k : ℕ) × (k < 2) × Out y q)
    both =
        many (λ i. Out) 2
        (two (relax (omega arith) (λ y q o. o) (λ y q o. omega (arith, low y q o)) a.plan)
        (relax (omega arith) (λ y q o. o) (λ y q o. omega (arith, low y q o)) b.plan))

    left : (p y : ℕ) → p < c.count → s p ≡ true → y ≡ l → both.won y p ≡ true
    unfolding many two relax
    left p y d v e = rw e (many_in _ 2 _ 0 l p (omega arith) (a.root p d v)).0

    right : (p y : ℕ) → p < c.count → u p ≡ true → y ≡ r → both.won y p ≡ true
    unfolding many two relax
    right p y d v e = rw e (many_in _ 2 _ 1 r p (omega arith) (b.root p d v)).0

    pair_goes : (o : Bool) (p y : ℕ) → p < c.count → (x : Bool) → s p ≡ x → joined o x (u p) ≡ true
        → Memᴰ y (moves (Operator.pair o l r) (not x)) → both.won y p ≡ true
    pair_goes true p y d true q v m = left p y d q (Memᴰ.eq_of_singleton m)
    pair_goes true p y d false q v m = right p y d v (Memᴰ.eq_of_singleton m)
    pair_goes false p y d true q v m =
        elim (Memᴰ.cases_cons m) [ inl g ↦ left p y d q g | inr g ↦ right p y d v (Memᴰ.eq_of_singleton g) ]
    pair_goes false p y d false q v m = absurd (false≢true v)

    abbrev leftward : ℕ → PositionSet
    leftward x p = cond (eqb x e) (not (s p)) (both.ch x p)

    win_pair : (o : Bool) → operator t e ≡ Operator.pair o l r → Win e Out (λ p. joined o (s p) (u p))
    win_pair o q =
        extended both (λ p. joined o (s p) (u p))
        (record {
          under = omega arith;
          ch = leftward;
          agree = λ x p g. rw (ne_eqb x e (λ d. omega arith)) refl;
          low = low;
          back = λ y z d. inl d.2;
          fair = λ p d v. rw q tt;
          goes = λ p y z d v m. inl (by p y z d v m);
          good = λ l p d q' v m. rw q at (least e q');
        })
      where
        by : (p y z : ℕ) → p < c.count → joined o (s p) (u p) ≡ true → Move t c leftward e p y z → both.won y z ≡ true
        by p y z d v (within m i) = rw i (pair_goes o p y d (s p) refl v (rw (q, eq-eqb e e refl) at m))
        by p y z d v (across m i) = absurd (Memᴰ.not-nil (rw q at m))

  win_next : {e l : ℕ} {Out : ℕ → ℕ → Type 0} → e < l → ((y q : ℕ) → Out y q → y < e) → {s : PositionSet} → Win l Out s
      → operator t e ≡ Operator.next l → Win e Out (λ p. s (c.after p))
  win_next {e} {l} {Out} h low {s} a q =
      extended a.plan (λ p. s (c.after p))
      (record {
        under = h;
        ch = a.plan.ch;
        agree = λ x p g. refl;
        low = low;
        back = λ y z d. inl d;
        fair = λ p d v. rw q tt;
        goes = λ p y z d v m. inl (by p y z d v m);
        good = λ l p d q' v m. rw q at (least e q');
      })
    where
      by : (p y z : ℕ) → p < c.count → s (c.after p) ≡ true → Move t c a.plan.ch e p y z → a.plan.won y z ≡ true
      by p y z d v (within m i) = absurd (Memᴰ.not-nil (rw q at m))
      by p y z d v (across m i) = rw (Memᴰ.eq_of_singleton (rw q at m), i) (a.root (c.after p) (c.after_lt p d) v)

  -- a fixpoint's sets, at a number above which all others stand
  put_cases : (σ : Sets) (e : ℕ) (s : PositionSet) (y q : ℕ) → put σ e s y q ≡ true → (σ y q ≡ true) ⊎ ((y ≡ e) × (s q ≡ true))
  put_cases σ e s y q = go (eqb y e) refl
    where
      go : (b : Bool) → eqb y e ≡ b → cond b (s q) (σ y q) ≡ true → (σ y q ≡ true) ⊎ ((y ≡ e) × (s q ≡ true))
      go true b v = inr (eqb-true y e b, v)
      go false b v = inl v

  module _ {e l : ℕ} (h : e < l) (σ : Sets) (low : (y q : ℕ) → σ y q ≡ true → y < e) where
    put_low : (s : PositionSet) (y q : ℕ) → put σ e s y q ≡ true → y < suc e
    put_low s y q o = ⊎_elim (λ (d : σ y q ≡ true). omega (arith, low y q d)) (λ (d : (y ≡ e) × (s q ≡ true)). omega arith)
        (put_cases σ e s y q o)

    module _ (f : PositionSet → PositionSet) (ih : (s : PositionSet) → Win l (λ y q. put σ e s y q ≡ true) (f s)) where
      abbrev Top : PositionSet
      Top = approximant c.count f (λ j. true)

      win_greatest : ((s u : PositionSet) → Sub c.count s u → Sub c.count (f s) (f u)) → operator t e ≡ Operator.fix true l
          → Win e (λ y q. σ y q ≡ true) Top
      win_greatest mono q =
          extended (ih Top).plan Top
          (record {
            under = h;
            ch = (ih Top).plan.ch;
            agree = λ x p g. refl;
            low = low;
            back = put_cases σ e Top;
            fair = λ p d v. rw q tt;
            goes = λ p y z d v m. inl (by p y z d v (body-only q m));
            good = λ m p d q' v a. rw q at (least e q');
          })
        where
          by : (p y z : ℕ) → p < c.count → Top p ≡ true → (y ≡ l) × (z ≡ p) → (ih Top).plan.won y z ≡ true
          by p y z d v m = rw (m.0, m.1) ((ih Top).root p d (settled c.count f mono p d v))

      abbrev Up : ℕ → PositionSet
      Up k = approximant k f (λ j. false)

      -- the round in which a position comes in, and whether one does
      turn : ℕ → ℕ
      turn p = first_of (suc c.count) (λ k. Up k p)

      ever : PositionSet
      ever p = ltb (turn p) (suc c.count)

      ever_in : (k p : ℕ) → k ≤ c.count → Up k p ≡ true → (ever p ≡ true) × (turn p ≤ k)
      unfolding ever turn
      ever_in k p g v = let r = first_le (suc c.count) (λ k. Up k p) k (omega arith) v in
          (lt-ltb (turn p) (suc c.count) (omega arith), r)

      ever_of : (p : ℕ) → ever p ≡ true → (k : ℕ) × (turn p ≡ suc k) × (k < c.count) × (f (Up k) p ≡ true)
      unfolding ever turn approximant
      ever_of p v = let r = ltb-true _ _ v in go (turn p) refl r (first-is (suc c.count) (λ k. Up k p) r)
        where
          go : (k : ℕ) → turn p ≡ k → k < suc c.count → Up k p ≡ true → (k : ℕ) × (turn p ≡ suc k) × (k < c.count) × (f (Up k) p ≡ true)
          go zero q r u = absurd (false≢true u)
          go (suc k) q r u = (k, q, omega arith, u)

      abbrev Outs : ℕ → ℕ → ℕ → Type 0
      Outs k y q = put σ e (Up k) y q ≡ true

      abbrev each : (k : ℕ) → Strategy (suc e) (Outs k)
      each k = relax (omega arith) (λ y q o. o) (put_low (Up k)) (ih (Up k)).plan

      abbrev all : Strategy (suc e) (λ y q. (k : ℕ) × (k < c.count) × Outs k y q)
      all = many Outs c.count each

      abbrev level : ℕ → ℕ → ℕ
      level = rank Outs c.count each

      enter : (p : ℕ) → p < c.count → ever p ≡ true → (all.won l p ≡ true) × (level l p < turn p)
      unfolding many relax
      enter p d v =
          let r = ever_of p v in
          let m = many_in Outs c.count each r.0 l p r.2 ((ih (Up r.0)).root p d r.3) in
          (m.0, omega arith)

      module _ (o : operator t e ≡ Operator.fix false l) where
        -- on the way to e the round never rises, and at e it has fallen
        least_falls : {x p z q : ℕ} (b : ℕ) → p < c.count → Path t c all.ch e x p z q → z ≡ e
            → ((x ≡ e) × (ever p ≡ true) × (turn p ≤ b)) ⊎ ((all.won x p ≡ true) × (level x p ≤ b)) → turn q ≤ b
        unfolding many
        least_falls b d here g (inl i) = i.2
        least_falls {x} {p} b d here g (inr i) = absurd (omega (arith, all.inside x p i.0))
        least_falls {x} {p} b d (step {y = y} {q = q} m k a) g (inl i) =
            let m' = body-only o (subst (λ (x : ℕ). Move t c all.ch x p y q) i.0 m) in
            let r = enter p d i.1 in
            least_falls b (move_lt d m) a g (inr (rw (m'.0, m'.1) r.0, rw (m'.0, m'.1) (omega arith)))
        least_falls {x} {p} b d (step {y = y} {q = q} m k a) g (inr i) =
            least_falls b (move_lt d m) a g
            (⊎_elim (λ (r : (all.won y q ≡ true) × (level y q ≤ level x p)). inr (r.0, omega arith))
            (λ (u : Outs (level x p) y q). ⊎_elim (λ (s : σ y q ≡ true). absurd (omega (arith, low y q s)))
            (λ (s : (y ≡ e) × (Up (level x p) q ≡ true)).
            let j = (many_of Outs c.count each x p i.0).1 in
            let r = ever_in (level x p) q (omega arith) s.1 in inl (s.0, r.0, omega arith))
            (put_cases σ e (Up (level x p)) y q u))
            (many-goes Outs c.count each x p y q d i.0 m))

        win_least : Win e (λ y q. σ y q ≡ true) (Up c.count)
        win_least = record { plan = last.plan; root = λ p d v. last.root p d (ever_in c.count p (omega arith) v).0 }
          where
            go : (p y q : ℕ) → p < c.count → ever p ≡ true → (y ≡ l) × (q ≡ p) → all.won y q ≡ true
            go p y q d v m = rw (m.0, m.1) (enter p d v).0

            back : (y q : ℕ) → (k : ℕ) × (k < c.count) × Outs k y q → (σ y q ≡ true) ⊎ ((y ≡ e) × (ever q ≡ true))
            back y q i =
                ⊎_elim (λ (s : σ y q ≡ true). inl s)
                (λ (s : (y ≡ e) × (Up i.0 q ≡ true)). inr (s.0, (ever_in i.0 q (omega arith) s.1).0))
                (put_cases σ e (Up i.0) y q i.2)

            good : (m p : ℕ) → p < c.count → operator t e ≡ Operator.fix false m → ever p ≡ true → Path t c all.ch e m p e p → ⊥
            good m p d q v a =
                let r = enter p d v in
                let u : m ≡ l = cc in
                let z = least_falls (level l p) d (subst (λ (m : ℕ). Path t c all.ch e m p e p) u a) refl (inr (r.0, omega arith))
                in omega arith

            last : Win e (λ y q. σ y q ≡ true) ever
            last =
                extended all ever
                (record {
                  under = omega arith;
                  ch = all.ch;
                  agree = λ x p g. refl;
                  low = low;
                  back = back;
                  fair = λ p d v. rw o tt;
                  goes = λ p y q d v m. inl (go p y q d v (body-only o m));
                  good = good;
                })

      win_fix : ((s u : PositionSet) → Sub c.count s u → Sub c.count (f s) (f u)) → (g : Bool) → operator t e ≡ Operator.fix g l
          → Win e (λ y q. σ y q ≡ true) (approximant c.count f (λ j. g))
      win_fix mono true q = win_greatest mono q
      win_fix mono false q = win_least q

  pub win : {e : ℕ} (a : Part t e) (σ : Sets) → ((y q : ℕ) → σ y q ≡ true → y < e) → Win e (λ y q. σ y q ≡ true) (holds t c a σ)
  unfolding holds
  win (Part.leaf l q) σ low =
      single (Operator.leaf l) q (λ n. n) low (λ p. leaf_at l (c.letter p)) (λ p v. subst⁻¹ T (asks_leaf l (c.letter p) ∙ v) tt)
      (λ y m. Memᴰ.not-nil m) (λ p y v m. absurd (Memᴰ.not-nil m))
  win (Part.variable m q) σ low =
      single (Operator.variable m) q (λ n. n) low (λ p. σ m p) (λ p v. tt) (λ y d. Memᴰ.not-nil d)
      (λ p y v d. rw (Memᴰ.eq_of_singleton d) v)
  win (Part.pair o q h k a b) σ low =
      win_pair h k low (win a σ (λ y q o. omega (arith, low y q o))) (win b σ (λ y q o. omega (arith, low y q o))) o q
  win (Part.next q k a) σ low = win_next k low (win a σ (λ y q o. omega (arith, low y q o))) q
  win (Part.fix e b q k a) σ low =
      win_fix k σ low (λ s. holds t c a (put σ e s)) (λ s. win a (put σ e s) (λ y q o. omega (arith, put_low k σ low s y q o)))
      (λ s u h. mono t c a (put σ e s) (put σ e u) (put_mono c.count σ σ e s u (λ m p l v. v) h)) b q
