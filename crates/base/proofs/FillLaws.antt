-- A loop that sets the elements of a list one after the other: after i turns the first i elements are those of a function, and the others
-- are as they were (`Filled`). Assumes nothing.
use Rattle.std.proofs.Common.{◌≡◌, refl, sym, ap, ◌∙◌, Bool, true, false, cond, List, ℕ, ◌+◌, ◌≤◌, ◌<◌, eqb, ltb, length, get_or, set}
use Rattle.std.proofs.Common.{length-set, arith, get_or-set_same, get_or-set_other, eqb-true, ne_eqb, lt-ltb, le-ltb, ltb-true, ltb-false}
use Rattle.std.proofs.lemmas.Bool.{eqb-false}

-- an element set
pub set_at : {A : Type 0} (d : A) (s : List A) (i : ℕ) (v : A) → i < length s → (k : ℕ)
    → get_or (set s i v) k d ≡ cond (eqb k i) v (get_or s k d)
set_at {A} d s i v h k = by (eqb k i) refl
  where
    by : (b : Bool) → eqb k i ≡ b → get_or (set s i v) k d ≡ cond b v (get_or s k d)
    by true q = ap (λ (j : ℕ). get_or (set s i v) j d) (eqb-true k i q) ∙ get_or-set_same s i v d h
    by false q = get_or-set_other s i k v d (eqb-false k i q)

-- the first i elements are the function's
pub record Filled (d : ℕ) (f : ℕ → ℕ) (i : ℕ) (s₀ s : List ℕ) : Type 0 where
  pub long : length s ≡ length s₀
  pub is : (k : ℕ) → get_or s k d ≡ cond (ltb k i) (f k) (get_or s₀ k d)

pub filled_none : (d : ℕ) (f : ℕ → ℕ) (s : List ℕ) → Filled d f 0 s s
filled_none d f s =
    record { long = refl; is = λ k. sym (ap (λ (b : Bool). cond b (f k) (get_or s k d)) (le-ltb k 0 (omega arith))) }

module _ {d : ℕ} {f : ℕ → ℕ} {i : ℕ} {s₀ s : List ℕ} (h : Filled d f i s₀ s) where
  pub filled-below : (k : ℕ) → k < i → get_or s k d ≡ f k
  filled-below k l = h.is k ∙ ap (λ (b : Bool). cond b (f k) (get_or s₀ k d)) (lt-ltb k i l)

  pub filled-above : (k : ℕ) → i ≤ k → get_or s k d ≡ get_or s₀ k d
  filled-above k l = h.is k ∙ ap (λ (b : Bool). cond b (f k) (get_or s₀ k d)) (le-ltb k i l)

  pub filled_more : {v : ℕ} → i < length s₀ → v ≡ f i → Filled d f (i + 1) s₀ (set s i v)
  filled_more {v} l e = record { long = length-set s i v ∙ h.long; is = λ k. at k (ltb k (i + 1)) refl }
    where
      changed : (k : ℕ) → get_or (set s i v) k d ≡ cond (eqb k i) v (get_or s k d)
      changed = set_at d s i v (omega (arith, h.long))

      at : (k : ℕ) (b : Bool) → ltb k (i + 1) ≡ b → get_or (set s i v) k d ≡ cond b (f k) (get_or s₀ k d)
      at k false q =
          changed k ∙ ap (λ (b : Bool). cond b v (get_or s k d)) (ne k (omega (arith, ltb-false k (i + 1) q)))
          ∙ filled-above k (omega (arith, ltb-false k (i + 1) q))
        where
          ne : (k : ℕ) → i < k → eqb k i ≡ false
          ne k m = ne_eqb k i (λ e. omega arith)
      at k true q = by (eqb k i) refl
        where
          by : (b : Bool) → eqb k i ≡ b → get_or (set s i v) k d ≡ f k
          by true p = changed k ∙ ap (λ (b : Bool). cond b v (get_or s k d)) p ∙ e ∙ ap f (sym (eqb-true k i p))
          by false p =
              changed k ∙ ap (λ (b : Bool). cond b v (get_or s k d)) p
              ∙ filled-below k (omega (arith, ltb-true k (i + 1) q, eqb-false k i p))
