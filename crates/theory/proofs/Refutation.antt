-- The argument behind soundness. Where a met subformula is false, moves lead to an outer set that is false there, or a least fixpoint
-- comes back to itself by moves that pass no smaller number. By recursion on the subformula: a false greatest fixpoint cannot come from
-- round 0, which is all true; a false least one gives a chain of more links than positions, so two of them agree. Assumes nothing.
use mathlib.Core.Path.{◌≡◌, refl, ◌∙◌, subst, subst⁻¹}
use mathlib.Core.Bool.{Bool, true, false, cond, true≢false}
use mathlib.Core.Logic.{◌⊎◌, inl, inr, ⊎_elim}
use mathlib.Core.List.Memᴰ
use Prim.Native.Nat.{ℕ, zero, suc, ◌≤◌, ◌<◌}
use native.Mathlib.Omega.{arith}
use lib.Dec.{T, eqb}
use borrow.Author.Tests.{eqb-true}
use Rattle.formula.specs.Table.{Operator, Table, operator}
use Rattle.lasso.specs.Lasso.{joined}
use Rattle.theory.proofs.Semantics.{LassoPositions, PositionSet, Sets, put, approximant, Part, holds, asks_leaf, Move, Move.within}
use Rattle.theory.proofs.Semantics.{Move.across, Path, Path.here, Path.step, LocallyTrue}
use Rattle.theory.proofs.Pigeon.{pigeon}

module _ (t : Table) (c : LassoPositions) (ch : ℕ → ℕ → Bool) where
  abbrev Way : ℕ → ℕ → ℕ → ℕ → ℕ → Type 0
  Way = Path t c ch

  abbrev To : ℕ → ℕ → ℕ → ℕ → Type 0
  To = Move t c ch

  path_join : {lo x p y q z r : ℕ} → Way lo x p y q → Way lo y q z r → Way lo x p z r
  path_join here b = b
  path_join (step m l a) b = step m l (path_join a b)

  path_lower : {lo lo' x p y q : ℕ} → lo ≤ lo' → Way lo' x p y q → Way lo x p y q
  path_lower h here = here
  path_lower h (step m l a) = step m (omega arith) (path_lower h a)

  module _ (met : ℕ → ℕ → Type 0) where
    -- what is met is closed under moves, and its leaves are true
    pub record Consistent : Type 0 where
      pub inside : (x p : ℕ) → met x p → p < c.count
      pub fair : (x p : ℕ) → met x p → LocallyTrue t c x p
      pub goes : (x p y q : ℕ) → met x p → To x p y q → met y q

    -- a least fixpoint m that comes back to itself
    pub record Rejected : Type 0 where
      pub m : ℕ
      pub l : ℕ
      pub j : ℕ
      pub is_least : operator t m ≡ Operator.fix false l
      pub under : m < l
      pub is-met : met m j
      pub around : Way m l j m j

    -- a variable that is met where its binder's set is false
    pub record Escape (e : ℕ) (σ : Sets) (i : ℕ) : Type 0 where
      pub x : ℕ
      pub y : ℕ
      pub q : ℕ
      pub way : Way e e i x q
      pub is-met : met x q
      pub out : To x q y q
      pub fails : σ y q ≡ false

    -- e comes back to itself k times, from its body l at a position on
    data Chain (e l : ℕ) : ℕ → ℕ → Type 0 where
      end : {j : ℕ} → Chain e l zero j
      link : {j j' k : ℕ} → Way e l j e j' → met e j' → Chain e l k j' → Chain e l (suc k) j

    module _ (M : Consistent) where
      pub along : {e x p y q : ℕ} → met x p → Way e x p y q → met y q
      along h here = h
      along h (step m l a) = along (M.goes _ _ _ _ h m) a

      -- an escape from where a move and a path lead is one from where they begin
      outer : {e l x : ℕ} {σ : Sets} {i j k : ℕ} → e ≤ x → e ≤ l → To e i l j → Way e l j x k → Escape x σ k ⊎ Rejected
          → Escape e σ i ⊎ Rejected
      outer h g m a (inl s) =
          inl
          (record {
            x = s.x;
            y = s.y;
            q = s.q;
            way = step m g (path_join a (path_lower h s.way));
            is-met = s.is-met;
            out = s.out;
            fails = s.fails;
          })
      outer h g m a (inr b) = inr b

      record Back (e l : ℕ) (s : PositionSet) (j : ℕ) : Type 0 where
        to : ℕ
        way : Way e l j e to
        is-met : met e to
        fails : s to ≡ false

      -- an escape from a fixpoint's body goes back to the fixpoint or out of it
      sort : {e l j : ℕ} {σ : Sets} {s : PositionSet} → e < l → To e j l j → Escape l (put σ e s) j
          → (Escape e σ j ⊎ Rejected) ⊎ Back e l s j
      sort {e} {l} {j} {σ} {s} h m x = go (eqb x.y e) refl x.fails
        where
          go : (b : Bool) → eqb x.y e ≡ b → cond b (s x.q) (σ x.y x.q) ≡ false → (Escape e σ j ⊎ Rejected) ⊎ Back e l s j
          go true b f =
              let back : To x.x x.q e x.q = subst (λ (y : ℕ). To x.x x.q y x.q) (eqb-true _ _ b) x.out in
              inr
              (record {
                to = x.q;
                way = path_join (path_lower (omega arith) x.way) (step back (omega arith) here);
                is-met = M.goes _ _ _ _ x.is-met back;
                fails = f;
              })
          go false b f =
              inl
              (outer (omega arith) (omega arith) m here
              (inl (record { x = x.x; y = x.y; q = x.q; way = x.way; is-met = x.is-met; out = x.out; fails = f })))

      module _ {e l : ℕ} {σ : Sets} (h : e < l) (m : (j : ℕ) → To e j l j) (f : PositionSet → PositionSet)
          (ih : (s : PositionSet) (j : ℕ) → met l j → f s j ≡ false → Escape l (put σ e s) j ⊎ Rejected) where
        once : (s : PositionSet) (j : ℕ) → met e j → f s j ≡ false → (Escape e σ j ⊎ Rejected) ⊎ Back e l s j
        once s j d q = ⊎_elim (λ x. sort h (m j) x) (λ b. inl (inr b)) (ih s j (M.goes _ _ _ _ d (m j)) q)

        onward : {s : PositionSet} {j : ℕ} (b : Back e l s j) → Escape e σ b.to ⊎ Rejected → Escape e σ j ⊎ Rejected
        onward {j = j} b r = outer (omega arith) (omega arith) (m j) b.way r

        greatest_false : (k j : ℕ) → met e j → approximant k f (λ i. true) j ≡ false → Escape e σ j ⊎ Rejected
        unfolding approximant
        greatest_false zero j d q = absurd (true≢false q)
        greatest_false (suc k) j d q =
            ⊎_elim (λ r. r) (λ b. onward b (greatest_false k b.to b.is-met b.fails)) (once (approximant k f (λ i. true)) j d q)

        least_false : (k j : ℕ) → met e j → approximant k f (λ i. false) j ≡ false → (Escape e σ j ⊎ Rejected) ⊎ Chain e l k j
        unfolding approximant
        least_false zero j d q = inr end
        least_false (suc k) j d q =
            ⊎_elim (λ r. inl r)
            (λ b. ⊎_elim (λ r. inl (onward b r)) (λ x. inr (link b.way b.is-met x)) (least_false k b.to b.is-met b.fails))
            (once (approximant k f (λ i. false)) j d q)

      -- a chain with more links than positions comes back
      module _ {e l : ℕ} (h : e < l) (m : (j : ℕ) → To e j l j) where
        at : {k j : ℕ} → Chain e l k j → ℕ → ℕ
        at (end {j}) b = j
        at (link {j} p d x) zero = j
        at (link p d x) (suc b) = at x b

        at_zero : {k j : ℕ} (x : Chain e l k j) → at x zero ≡ j
        unfolding at
        at_zero end = refl
        at_zero (link p d x) = refl

        at-met : {k j : ℕ} (x : Chain e l k j) (b : ℕ) → met e j → met e (at x b)
        unfolding at
        at-met end b d = d
        at-met (link p d' x) zero d = d
        at-met (link p d' x) (suc b) d = at-met x b d'

        run : {k j : ℕ} (x : Chain e l k j) (b : ℕ) → b < k → Way e l j e (at x (suc b))
        unfolding at
        run end b g = absurd (omega arith)
        run (link p d x) zero g = rw (at_zero x) p
        run (link p d x) (suc b) g = path_join p (step (m _) (omega arith) (run x b (omega arith)))

        between : {k j : ℕ} (x : Chain e l k j) (a b : ℕ) → a < b → b ≤ k → Way e l (at x a) e (at x b)
        unfolding at
        between end a b g g' = absurd (omega arith)
        between (link p d x) zero zero g g' = absurd (omega arith)
        between (link p d x) zero (suc b) g g' = run (link p d x) b (omega arith)
        between (link p d x) (suc a) zero g g' = absurd (omega arith)
        between (link p d x) (suc a) (suc b) g g' = between x a b (omega arith) (omega arith)

        round_trip : operator t e ≡ Operator.fix false l → {j : ℕ} → met e j → Chain e l c.count j → Rejected
        round_trip q {j} d x =
            let o = pigeon c.count (at x) (λ i g. M.inside _ _ (at-met x i d)) in
            record {
              m = e;
              l = l;
              j = at x o.a;
              is_least = q;
              under = h;
              is-met = at-met x o.a d;
              around = subst⁻¹ (λ (v : ℕ). Way e l (at x o.a) e v) o.same (between x o.a o.b o.before o.last);
            }

      abbrev Fails : Sets → ℕ → ℕ → Bool → Type 0
      Fails σ i y s = met y i → s ≡ false → Escape y σ i ⊎ Rejected

      module _ {e l r i : ℕ} {σ : Sets} (h : e < l) (k : e < r) (d : met e i) where
        -- the operand y, to which the pair moves, is false
        operand : {y : ℕ} {s : Bool} → e < y → To e i y i → Fails σ i y s → s ≡ false → Escape e σ i ⊎ Rejected
        operand g m f z = outer (omega arith) (omega arith) m here (f (M.goes _ _ _ _ d m) z)

        pair_false : (o : Bool) → operator t e ≡ Operator.pair o l r → (s u : Bool) → Fails σ i l s → Fails σ i r u → joined o s u ≡ false
            → (b : Bool) → ch e i ≡ b → Escape e σ i ⊎ Rejected
        pair_false true q true u f g z b y = absurd (true≢false z)
        pair_false true q false u f g z false y = operand h (within (rw (q, y) (Memᴰ.head refl)) refl) f refl
        pair_false true q false u f g z true y = operand k (within (rw (q, y) (Memᴰ.head refl)) refl) g z
        pair_false false q false u f g z b y = operand h (within (rw q (Memᴰ.head refl)) refl) f refl
        pair_false false q true u f g z b y = operand k (within (rw q (Memᴰ.tail (Memᴰ.head refl))) refl) g z

      fix_false : {e l : ℕ} {σ : Sets} (g : Bool) → operator t e ≡ Operator.fix g l → e < l → (f : PositionSet → PositionSet)
          → ((s : PositionSet) (j : ℕ) → met l j → f s j ≡ false → Escape l (put σ e s) j ⊎ Rejected)
          → (i : ℕ) → met e i → approximant c.count f (λ j. g) i ≡ false → Escape e σ i ⊎ Rejected
      fix_false true q h f ih i d z = greatest_false h (λ j. within (rw q (Memᴰ.head refl)) refl) f ih c.count i d z
      fix_false {e} {l} false q h f ih i d z =
          let m : (j : ℕ) → To e j l j = λ j. within (rw q (Memᴰ.head refl)) refl in
          ⊎_elim (λ r. r) (λ x. inr (round_trip h m q d x)) (least_false h m f ih c.count i d z)

      pub refutation : {e : ℕ} (a : Part t e) (σ : Sets) (i : ℕ) → met e i → holds t c a σ i ≡ false → Escape e σ i ⊎ Rejected
      unfolding holds
      refutation (Part.leaf l q) σ i d f = absurd (subst T (asks_leaf l _ ∙ f) (rw q at (M.fair _ _ d)))
      refutation (Part.variable {e} m q) σ i d f =
          inl (record { x = e; y = m; q = i; way = here; is-met = d; out = within (rw q (Memᴰ.head refl)) refl; fails = f })
      refutation (Part.pair {e} o q h k a b) σ i d f =
          pair_false h k d o q _ _ (λ d'. refutation a σ i d') (λ d'. refutation b σ i d') f (ch e i) refl
      refutation (Part.next {e} {l} q h a) σ i d f =
          let m : To e i l (c.after i) = across (rw q (Memᴰ.head refl)) refl in
          outer (omega arith) (omega arith) m here (refutation a σ (c.after i) (M.goes _ _ _ _ d m) f)
      refutation (Part.fix e g q h a) σ i d f = fix_false g q h (λ s. holds t c a (put σ e s)) (λ s j. refutation a (put σ e s) j) i d f
