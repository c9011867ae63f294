-- The rank of a priority: a fixpoint's is its number among the fixpoints from the left, none has 7. Where there are at most seven
-- fixpoints, ranks and priorities match one for one and in order (`priorities_min`), and the table of least fixpoints by rank says what the
-- formula's table says (`priorities-least`). Assumes nothing.
use mathlib.Core.Path.{◌≡◌, refl, sym, ap, subst, ◌∙◌}
use mathlib.Core.Logic.{◌⊎◌, inl, inr}
use mathlib.Core.Bool.{Bool, true, false, cond}
use mathlib.Core.List.Memᴰ
use mathlib.Core.List.{List, [], ◌∷◌, ◌++◌, Memᴰ}
use Prim.Native.Nat.{ℕ, zero, suc, ◌+◌, ◌≤◌, ◌<◌, min}
use native.Mathlib.Omega.{arith}
use native.Mathlib.Decide.{dec_lt}
use lib.Dec.{T}
use lib.ListN.{length, get_or, get_or-eq_default}
use Rattle.base.proofs.BoolLaws.{by_test}
use Rattle.base.proofs.At.{At, at_lt, in_at, at_one}
use Rattle.formula.specs.Table.{Table, operator, is_fix}
use Rattle.profile.specs.Traces.{priorities_from}
use Rattle.profile.specs.Profiles.{is_least}
use Rattle.profile.proofs.TripleLaws.{Priority}
use Rattle.profile_tables.specs.Marks.{leasts}

-- the fixpoints of a table whose first subformula is e, by rising number
abbrev pub fixes-from : ℕ → Table → List ℕ
fixes-from e [] = []
fixes-from e (o ∷ t) = let r = fixes-from (suc e) t in cond (is_fix o) (e ∷ r) r

-- the first of them, or one of the rest
first_or : {A : Type 0} (b : Bool) {e : A} {r : List A} {i : ℕ} {x : A} → At (cond b (e ∷ r) r) i x
    → (T b × (i ≡ 0) × (x ≡ e)) ⊎ ((j : ℕ) × At r j x × (i ≡ cond b (suc j) j))
first_or true At.here = inl (tt, refl, refl)
first_or true (At.there {i} a) = inr (i, a, refl)
first_or false {i = i} a = inr (i, a, refl)

pub or_first : {A : Type 0} (b : Bool) {e : A} (r : List A) → T b → At (cond b (e ∷ r) r) 0 e
or_first true r h = At.here
or_first false r h = absurd h

pub or_rest : {A : Type 0} (b : Bool) (e : A) {r : List A} {j : ℕ} {x : A} → At r j x → At (cond b (e ∷ r) r) (cond b (suc j) j) x
or_rest true e a = At.there a
or_rest false e a = a

-- each is a fixpoint of the table
pub fixes_in : (t : Table) (e : ℕ) {i x : ℕ} → At (fixes-from e t) i x
    → (d : ℕ) × (x ≡ e + d) × (d < length t) × T (is_fix (operator t d)) × (get_or (leasts t) i false ≡ is_least (operator t d))
fixes_in [] e a = absurd (omega (arith, at_lt a))
fixes_in (o ∷ t) e {i} {x} a =
    elim (first_or (is_fix o) a) [
      | inl h ↦ (
        0,
        omega (arith, h.2),
        omega arith,
        h.0,
        by_test (is_fix o) (λ b. get_or (cond b (is_least o ∷ leasts t) (leasts t)) i false ≡ is_least o)
            (λ k. ap (λ (n : ℕ). get_or (is_least o ∷ leasts t) n false) h.1)
            (λ k. absurd (k h.0)),
      )
      | inr h ↦
          let (d, p, l, f, q) = fixes_in t (suc e) h.1 in
          (suc d, omega arith, omega arith, f, rest (is_fix o) h.0 h.2 ∙ q)
    ]
  where
    rest : (b : Bool) (j : ℕ) → i ≡ cond b (suc j) j → get_or (cond b (is_least o ∷ leasts t) (leasts t)) i false ≡ get_or (leasts t) j
        false
    rest true j q = ap (λ (n : ℕ). get_or (is_least o ∷ leasts t) n false) q
    rest false j q = ap (λ (n : ℕ). get_or (leasts t) n false) q

-- and each fixpoint is there
pub fixes-all : (t : Table) (e d : ℕ) → T (is_fix (operator t d)) → (i : ℕ) × At (fixes-from e t) i (e + d)
fixes-all [] e d f = absurd f
fixes-all (o ∷ t) e zero f =
    (0, subst (At (fixes-from e (o ∷ t)) 0) {x = e} {y = e + 0} (omega arith) (or_first (is_fix o) (fixes-from (suc e) t) f))
fixes-all (o ∷ t) e (suc d) f =
    let (i, a) = fixes-all t (suc e) d f in (
      cond (is_fix o) (suc i) i,
      subst (At (fixes-from e (o ∷ t)) (cond (is_fix o) (suc i) i)) {x = suc e + d} {y = e + suc d}
          (omega arith) (or_rest (is_fix o) e a),
    )

-- by rising number
fixes_rise : (t : Table) (e : ℕ) {i j x y : ℕ} → At (fixes-from e t) i x → At (fixes-from e t) j y → i < j → x < y
fixes_rise [] e a b l = absurd (omega (arith, at_lt a))
fixes_rise (o ∷ t) e {i} {j} {x} {y} a b l =
    both (is_fix o) (first_or (is_fix o) a) (first_or (is_fix o) b) (λ k m c d. fixes_rise t (suc e) c d)
  where
    both : (b : Bool) → (T b × (i ≡ 0) × (x ≡ e)) ⊎ ((k : ℕ) × At (fixes-from (suc e) t) k x × (i ≡ cond b (suc k) k))
        → (T b × (j ≡ 0) × (y ≡ e)) ⊎ ((k : ℕ) × At (fixes-from (suc e) t) k y × (j ≡ cond b (suc k) k))
        → ((k m : ℕ) → At (fixes-from (suc e) t) k x → At (fixes-from (suc e) t) m y → k < m → x < y) → x < y
    both b p (inl q) f = absurd (omega (arith, q.1))
    both b (inl p) (inr q) f = let (d, z, l, r, g) = fixes_in t (suc e) q.1 in omega (arith, p.2)
    both true (inr p) (inr q) f = f p.0 q.0 p.1 q.1 (omega (arith, p.2, q.2))
    both false (inr p) (inr q) f = f p.0 q.0 p.1 q.1 (omega (arith, p.2, q.2))

leasts-length : (t : Table) (e : ℕ) → length (leasts t) ≡ length (fixes-from e t)
leasts-length [] e = refl
leasts-length (o ∷ t) e = by (is_fix o) (leasts-length t (suc e))
  where
    by : (b : Bool) → length (leasts t) ≡ length (fixes-from (suc e) t)
        → length (cond b (is_least o ∷ leasts t) (leasts t)) ≡ length (cond b (e ∷ fixes-from (suc e) t) (fixes-from (suc e) t))
    by true q = ap suc q
    by false q = q

priorities_are : (t : Table) (e : ℕ) → priorities_from e t ≡ fixes-from e t ++ ((e + length t) ∷ [])
priorities_are [] e = ap (λ (n : ℕ). n ∷ []) {x = e} {y = e + 0} (omega arith)
priorities_are (o ∷ t) e =
    by (is_fix o) (priorities_are t (suc e) ∙ ap (λ (n : ℕ). fixes-from (suc e) t ++ (n ∷ [])) {x = suc e + length t}
    {y = e + suc (length t)} (omega arith))
  where
    by : (b : Bool) → priorities_from (suc e) t ≡ fixes-from (suc e) t ++ ((e + suc (length t)) ∷ [])
        → cond b (e ∷ priorities_from (suc e) t) (priorities_from (suc e) t) ≡ cond b (e ∷ fixes-from (suc e) t) (fixes-from (suc e) t)
        ++ ((e + suc (length t)) ∷ [])
    by true q = ap (λ (l : List ℕ). e ∷ l) q
    by false q = q

module _ (t : Table) where
  -- the priority of a rank
  pub data PriorityRank : ℕ → ℕ → Type 0 where
    fixpoint : {k x : ℕ} → At (fixes-from 0 t) k x → PriorityRank k x
    none : PriorityRank 7 (length t)

  priorities_cast : {k l x y : ℕ} → PriorityRank k x → k ≡ l → x ≡ y → PriorityRank l y
  priorities_cast {l = l} {x = x} w p q = subst (PriorityRank l) q (subst (λ (i : ℕ). PriorityRank i x) p w)

  -- every priority has a rank
  pub priorities_of : {x : ℕ} → Priority t x → (k : ℕ) × PriorityRank k x
  priorities_of {x} m =
      elim (Memᴰ.append_cases (fixes-from 0 t) (subst (Memᴰ x) (priorities_are t 0) m)) [
        | inl a ↦ let (k, b) = in_at a in (k, fixpoint b)
        | inr b ↦ (7, priorities_cast none refl (omega (arith, Memᴰ.eq_of_singleton b)))
      ]

  fix_lt : {k x : ℕ} → At (fixes-from 0 t) k x → x < length t
  fix_lt a = let (d, p, l, f, q) = fixes_in t 0 a in omega arith

  module _ (few : length (fixes-from 0 t) ≤ 7) where
    pub priorities_lt : {k x : ℕ} → PriorityRank k x → k < 8
    priorities_lt (fixpoint a) = omega (arith, at_lt a)
    priorities_lt none = omega arith

    -- the smaller rank is that of the smaller priority
    pub priorities_min : {k l x y : ℕ} → PriorityRank k x → PriorityRank l y → PriorityRank (min k l) (min x y)
    priorities_min {k} {l} {x} {y} (fixpoint a) (fixpoint b) = by (dec_lt k l) (dec_lt l k)
      where
        by : Dec (k < l) → Dec (l < k) → PriorityRank (min k l) (min x y)
        by (yes p) q = priorities_cast (fixpoint a) (omega arith) (omega (arith, fixes_rise t 0 a b p))
        by (no p) (yes q) = priorities_cast (fixpoint b) (omega arith) (omega (arith, fixes_rise t 0 b a q))
        by (no p) (no q) =
            let e : k ≡ l = omega arith in
            priorities_cast (fixpoint a) (omega arith) (omega (arith, at_one (subst (λ (i : ℕ). At (fixes-from 0 t) i x) e a) b))
    priorities_min (fixpoint a) none = priorities_cast (fixpoint a) (omega (arith, at_lt a)) (omega (arith, fix_lt a))
    priorities_min none (fixpoint b) = priorities_cast (fixpoint b) (omega (arith, at_lt b)) (omega (arith, fix_lt b))
    priorities_min none none = priorities_cast none (omega arith) (omega arith)

    -- least fixpoints by rank
    pub priorities-least : {k x : ℕ} → PriorityRank k x → get_or (leasts t) k false ≡ is_least (operator t x)
    priorities-least (fixpoint a) =
        let (d, p, l, f, q) = fixes_in t 0 a in
        q ∙ ap (λ (e : ℕ). is_least (operator t e)) (omega arith)
    priorities-least none =
        get_or-eq_default (leasts t) false (omega (arith, leasts-length t 0))
        ∙ sym (ap is_least (get_or-eq_default t _ (omega arith)))

    -- a rank has one priority, and a priority one rank
    pub priorities-one : {k x y : ℕ} → PriorityRank k x → PriorityRank k y → x ≡ y
    priorities-one {k} {x} {y} v w = omega (arith, lower v w, lower w v)
      where
        lower : {k x y : ℕ} → PriorityRank k x → PriorityRank k y → x ≤ y
        lower (fixpoint a) (fixpoint b) = omega (arith, at_one a b)
        lower (fixpoint a) none = omega (arith, fix_lt a)
        lower none (fixpoint b) = absurd (omega (arith, at_lt b))
        lower none none = omega arith

    ranks_agree : {k l x y : ℕ} → PriorityRank k x → PriorityRank l y → x ≡ y → k ≡ l
    ranks_agree {k} {l} (fixpoint {x} a) (fixpoint {x = y} b) e = by (dec_lt k l) (dec_lt l k)
      where
        by : Dec (k < l) → Dec (l < k) → k ≡ l
        by (yes p) q = absurd (omega (arith, fixes_rise t 0 a b p))
        by (no p) (yes q) = absurd (omega (arith, fixes_rise t 0 b a q))
        by (no p) (no q) = omega arith
    ranks_agree (fixpoint a) none e = absurd (omega (arith, fix_lt a))
    ranks_agree none (fixpoint b) e = absurd (omega (arith, fix_lt b))
    ranks_agree none none e = refl

    pub priorities_rank : {k l x : ℕ} → PriorityRank k x → PriorityRank l x → k ≡ l
    priorities_rank a b = ranks_agree a b refl
