-- Moves within a transition come to an end. A subformula's level is the number of next operators around it. A move to an operand keeps
-- the level and goes to a later number; a move from a variable to its binder comes to a lower level, as a next stands between. So a
-- number made of the level, then of how many numbers are left, falls with each move. Assumes nothing.
use mathlib.Core.Path.{◌≡◌, refl, sym, ap, ◌∙◌, subst}
use mathlib.Core.Bool.{Bool, true, false}
use mathlib.Core.Logic.{◌⊎◌, inl, inr, ⊎_elim}
use mathlib.Core.List.Memᴰ
use mathlib.Core.List.{List, [], ◌∷◌, ◌++◌, map, Memᴰ}
use Prim.Native.Nat.{ℕ, zero, suc, ◌+◌, ◌*◌, ◌-◌, ◌≤◌, ◌<◌}
use native.Mathlib.Omega.{arith}
use native.Mathlib.Decide.{dec_lt}
use native.Mathlib.Nat.{mul-le-mul_right}
use lib.ListN.{length, get_or, length-append}
use lib.Dec.{T}
use Rattle.base.proofs.ListLaws.{Each, each_left, each_right, each_of}
use Rattle.formula.specs.Formula.{Formula, size}
use Rattle.formula.specs.Table.{Operator}
use Rattle.formula.specs.Occurrence.{Guards, Occurs}
use Rattle.formula.proofs.WellFormed.{sits_first, occurs_left, occurs_right, occurs_next, occurs_body}
use Rattle.tableau.specs.Saturation.{moves}

-- of each subformula, how many next operators stand around it
levels : ℕ → Formula → List ℕ
levels d (Formula.leaf l) = d ∷ []
levels d (Formula.variable i) = d ∷ []
levels d (Formula.pair o a b) = d ∷ (levels d a ++ levels d b)
levels d (Formula.next a) = d ∷ levels (suc d) a
levels d (Formula.fix g a) = d ∷ levels d a

levels_length : (d : ℕ) (f : Formula) → length (levels d f) ≡ size f
unfolding levels
levels_length d (Formula.leaf l) = refl
levels_length d (Formula.variable i) = refl
levels_length d (Formula.pair o a b) = simp length-append (omega (arith, levels_length d a, levels_length d b))
levels_length d (Formula.next a) = omega (arith, levels_length (suc d) a)
levels_length d (Formula.fix g a) = omega (arith, levels_length d a)

pub pair-moves : (o b : Bool) {l r y : ℕ} → Memᴰ y (moves (Operator.pair o l r) b) → (y ≡ l) ⊎ (y ≡ r)
pair-moves true true m = inr (Memᴰ.eq_of_singleton m)
pair-moves true false m = inl (Memᴰ.eq_of_singleton m)
pair-moves false b m = elim (Memᴰ.cases_cons m) [ inl e ↦ inl e | inr k ↦ inr (Memᴰ.eq_of_singleton k) ]

-- a fact of every number of an interval, from its first one or from its parts
module _ (P : ℕ → Type 0) where
  abbrev All : ℕ → ℕ → Type 0
  All lo hi = (x : ℕ) → lo ≤ x → x < hi → P x

  all_first : {e n : ℕ} → P e → All (e + 1) n → All e n
  all_first {e} {n} p more x i j = elim (dec_lt e x) [ yes l ↦ more x (omega arith) j | no l ↦ subst P {x = e} {y = x} (omega arith) p ]

  all_join : {lo m hi : ℕ} → All lo m → All m hi → All lo hi
  all_join {lo} {m} {hi} a b x i j = elim (dec_lt x m) [ yes l ↦ a x i l | no l ↦ b x (omega arith) j ]

-- Levels fall. The operators and ends are those of a formula that stands there, and so are the levels.
module _ (op : ℕ → Operator) (end : ℕ → ℕ) (count : ℕ) (level : ℕ → ℕ) where
  abbrev Marked : ℕ → List ℕ → Type 0
  Marked = Each (λ x d. level x ≡ d)

  record Levelled (d e : ℕ) (guards : Guards) (binders : List ℕ) (f : Formula) : Type 0 where
    stands : Occurs op end count e guards binders f
    marks : Marked e (levels d f)
    under : (i : ℕ) → i < length binders → level (get_or binders i 0) ≤ d
    guarded-under : (i : ℕ) → i < length binders → T (get_or guards i false) → level (get_or binders i 0) < d

  level_first : {d e : ℕ} (f : Formula) → Marked e (levels d f) → level e ≡ d
  unfolding levels
  level_first (Formula.leaf l) h = h.0
  level_first (Formula.variable i) h = h.0
  level_first (Formula.pair o a b) h = h.0
  level_first (Formula.next a) h = h.0
  level_first (Formula.fix g a) h = h.0

  abbrev Down : ℕ → ℕ → Type 0
  Down x y = ((x < y) × (level y ≡ level x)) ⊎ (level y < level x)

  abbrev Falls : ℕ → Type 0
  Falls x = (y : ℕ) (b : Bool) → Memᴰ y (moves (op x) b) → Down x y

  falls_as : (x : ℕ) (o : Operator) → op x ≡ o → ((y : ℕ) (b : Bool) → Memᴰ y (moves o b) → Down x y) → Falls x
  falls_as x o q f y b m = f y b (rw q at m)

  module _ {d e : ℕ} {guards : Guards} {binders : List ℕ} where
    on-left : {o : Bool} (a b : Formula) → Levelled d e guards binders (Formula.pair o a b) → Levelled d (e + 1) guards binders a
    unfolding levels
    on-left a b h =
        record {
          stands = occurs_left op end count h.stands;
          marks = each_left (λ x d. level x ≡ d) (e + 1) (levels d a) (levels d b) h.marks.1;
          under = h.under;
          guarded-under = h.guarded-under;
        }

    on-right : {o : Bool} (a b : Formula) → Levelled d e guards binders (Formula.pair o a b) → Levelled d (e + 1 + size a) guards binders b
    unfolding levels
    on-right a b h =
        record {
          stands = occurs_right op end count h.stands;
          marks = each_right (λ x d. level x ≡ d) (e + 1) (e + 1 + size a) (levels d a) (levels d b) (omega (arith, levels_length d a))
              h.marks.1;
          under = h.under;
          guarded-under = h.guarded-under;
        }

    on-next : (a : Formula) → Levelled d e guards binders (Formula.next a) → Levelled (suc d) (e + 1) (map (λ _. true) guards) binders a
    unfolding levels
    on-next a h =
        record {
          stands = occurs_next op end count h.stands;
          marks = h.marks.1;
          under = λ i l. omega (arith, h.under i l);
          guarded-under = λ i l g. omega (arith, h.under i l);
        }

    on-body : {g : Bool} (a : Formula) → Levelled d e guards binders (Formula.fix g a) → Levelled d (e + 1) (false ∷ guards) (e ∷ binders) a
    unfolding levels
    on-body {g} a h =
        record {
          stands = occurs_body op end count h.stands;
          marks = h.marks.1;
          under = λ i. under i;
          guarded-under = λ i. guarded-under i;
        }
      where
        under : (i : ℕ) → i < suc (length binders) → level (get_or (e ∷ binders) i 0) ≤ d
        under zero l = omega (arith, h.marks.0)
        under (suc i) l = h.under i (omega arith)

        guarded-under : (i : ℕ) → i < suc (length binders) → T (get_or (false ∷ guards) i false) → level (get_or (e ∷ binders) i 0) < d
        guarded-under zero l k = absurd k
        guarded-under (suc i) l k = h.guarded-under i (omega arith) k

  falls : {d e : ℕ} {guards : Guards} {binders : List ℕ} (f : Formula) → Levelled d e guards binders f → All Falls e (e + size f)
  falls {e = e} (Formula.leaf l) h =
      all_first Falls (falls_as e (Operator.leaf l) (sits_first h.stands.operators) (λ y b m. absurd (Memᴰ.not-nil m)))
      (λ x i j. absurd (omega arith))
  falls {e = e} {binders = binders} (Formula.variable i) h =
      all_first Falls
      (falls_as e (Operator.variable (get_or binders i 0)) (sits_first h.stands.operators)
      (λ y b m.
      inr
      (rw (Memᴰ.eq_of_singleton m, level_first (Formula.variable i) h.marks)
      (h.guarded-under i (omega (arith, h.stands.guarded.0, h.stands.scoped)) h.stands.guarded.1))))
      (λ x i j. absurd (omega arith))
  falls {d} {e} (Formula.pair o a b) h =
      all_first Falls
      (falls_as e (Operator.pair o (e + 1) (e + 1 + size a)) (sits_first h.stands.operators)
      (λ y c m.
      let here = sym (level_first (Formula.pair o a b) h.marks) in
      inl
      (⊎_elim (λ (q : y ≡ e + 1). (omega arith, ap level q ∙ level_first a (on-left a b h).marks ∙ here))
      (λ (q : y ≡ e + 1 + size a). (omega arith, ap level q ∙ level_first b (on-right a b h).marks ∙ here)) (pair-moves o c m))))
      (λ x i j. all_join Falls (falls {e = e + 1} a (on-left a b h)) (falls {e = e + 1 + size a} b (on-right a b h)) x i (omega arith))
  falls {e = e} (Formula.next a) h =
      all_first Falls (falls_as e (Operator.next (e + 1)) (sits_first h.stands.operators) (λ y b m. absurd (Memᴰ.not-nil m)))
      (λ x i j. falls {e = e + 1} a (on-next a h) x i (omega arith))
  falls {e = e} (Formula.fix g a) h =
      all_first Falls
      (falls_as e (Operator.fix g (e + 1)) (sits_first h.stands.operators)
      (λ y b m.
      let q = Memᴰ.eq_of_singleton m in
      inl (omega arith, ap level q ∙ level_first a (on-body a h).marks ∙ sym (level_first (Formula.fix g a) h.marks))))
      (λ x i j. falls {e = e + 1} a (on-body a h) x i (omega arith))

  -- levels first, then numbers
  tall : ℕ → ℕ
  tall x = level x * suc count + (count - x)

  tall_falls : {x y : ℕ} → x ≤ count → y ≤ count → Down x y → tall y < tall x
  unfolding tall
  tall_falls h l (inl d) = omega (arith, ap (λ (i : ℕ). i * suc count) d.1)
  tall_falls h l (inr d) = omega (arith, mul-le-mul_right (suc count) d)

-- Of a whole formula.
module _ (op : ℕ → Operator) (end : ℕ → ℕ) (f : Formula) (whole : Occurs op end (size f) 0 [] [] f) where
  abbrev level : ℕ → ℕ
  level x = get_or (levels 0 f) x 0

  pub height : ℕ → ℕ
  height = tall op end (size f) level

  -- Theorem: the height falls with each move within a transition.
  pub height_falls : (x y : ℕ) (b : Bool) → x < size f → y < size f → Memᴰ y (moves (op x) b) → height y < height x
  unfolding height
  height_falls x y b h k m =
      tall_falls op end (size f) level (omega arith) (omega arith)
      (falls op end (size f) level f
      (record {
        stands = whole;
        marks = each_of (λ x d. level x ≡ d) 0 (levels 0 f) 0 (λ i l. ap level (omega arith));
        under = λ i l. absurd (omega arith);
        guarded-under = λ i l g. absurd (omega arith);
      }) x (omega arith) (omega arith) y b m)
