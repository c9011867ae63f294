-- Laws of a function's values at the numbers from e on, which is how rows, columns and words are decoded: such a list splits and joins
-- where its numbers do. Assumes nothing.
use Rattle.std.proofs.Common.{◌≡◌, refl, ap, ◌∙◌, List, ◌∷◌, ◌++◌, map, ℕ, zero, suc, ◌+◌, ◌≤◌, ◌<◌, arith, length, get_or}
use Rattle.base.specs.Lists.{range}

module _ {A : Type 0} where
  cons : {x y : A} {s t : List A} → x ≡ y → s ≡ t → ◌≡◌ {A = List A} (x ∷ s) (y ∷ t)
  cons p q = cc

  module _ (g : ℕ → A) where
    pub values_one : (e k : ℕ) → map g (range e (1 + k)) ≡ g e ∷ map g (range (e + 1) k)
    values_one e k =
        ap (λ (m : ℕ). map g (range e m)) {x = 1 + k} {y = suc k} (omega arith)
        ∙ ap (λ (m : ℕ). g e ∷ map g (range m k)) {x = suc e} {y = e + 1} (omega arith)

    pub values_length : (e k : ℕ) → length (map g (range e k)) ≡ k
    values_length e zero = refl
    values_length e (suc k) = ap suc (values_length (suc e) k)

    pub values_add : (e j k : ℕ) → map g (range e (j + k)) ≡ map g (range e j) ++ map g (range (e + j) k)
    values_add e zero k =
        ap (λ (m : ℕ). map g (range e m)) {x = 0 + k} {y = k} (omega arith)
        ∙ ap (λ (m : ℕ). map g (range m k)) {x = e} {y = e + 0} (omega arith)
    values_add e (suc j) k =
        ap (λ (m : ℕ). map g (range e m)) {x = suc j + k} {y = suc (j + k)} (omega arith)
        ∙ cons refl (values_add (suc e) j k)
        ∙ ap (λ (m : ℕ). map g (range e (suc j)) ++ map g (range m k)) {x = suc e + j} {y = e + suc j} (omega arith)

    pub values_at : (e k i : ℕ) (d : A) → i < k → get_or (map g (range e k)) i d ≡ g (e + i)
    values_at e zero i d h = absurd (omega arith)
    values_at e (suc k) zero d h = ap g {x = e} {y = e + 0} (omega arith)
    values_at e (suc k) (suc i) d h = values_at (suc e) k i d (omega arith) ∙ ap g {x = suc e + i} {y = e + suc i} (omega arith)

    pub values_same : (h : ℕ → A) (e k : ℕ) → ((j : ℕ) → e ≤ j → j < e + k → g j ≡ h j) → map g (range e k) ≡ map h (range e k)
    values_same h e zero f = refl
    values_same h e (suc k) f = cons (f e (omega arith) (omega arith)) (values_same h (suc e) k (λ j l m. f j (omega arith) (omega arith)))

    pub values_join : (e j k : ℕ) (s t : List A) → map g (range e j) ≡ s → map g (range (e + j) k) ≡ t
        → map g (range e (j + k)) ≡ s ++ t
    values_join e j k s t p q = values_add e j k ∙ ap (λ (u : List A). u ++ map g (range (e + j) k)) p ∙ ap (λ (u : List A). s ++ u) q

    pub values_cons : (e k : ℕ) (x : A) (s : List A) → g e ≡ x → map g (range (e + 1) k) ≡ s → map g (range e (1 + k)) ≡ x ∷ s
    values_cons e k x s p q = values_one e k ∙ cons p q
