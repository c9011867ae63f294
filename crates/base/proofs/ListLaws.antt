-- Laws of lists by the number of an element: what holds of each element at its number, elements of a mapped list, of a run of numbers,
-- and repeating a function. Assumes nothing.
use Rattle.std.proofs.Common.{ℕ, zero, suc, ◌+◌, ◌<◌, ◌≡◌, refl, ap, subst, ◌∙◌, List, [], ◌∷◌, ◌++◌, map, arith, length, get_or}
use Rattle.base.specs.Lists.{range, iterate}

module _ {A : Type 0} where
  -- the elements, numbered from e on, each have the property
  abbrev pub Each : (ℕ → A → Type 0) → ℕ → List A → Type 0
  Each P e [] = Unit {0}
  Each P e (x ∷ xs) = P e x × Each P (e + 1) xs

  -- the second part of a list begins where the first one ends
  pub each_append : (P : ℕ → A → Type 0) (e m : ℕ) (xs ys : List A) → e + length xs ≡ m → Each P e xs → Each P m ys → Each P e (xs ++ ys)
  each_append P e m [] ys q h k = subst (λ (i : ℕ). Each P i ys) {x = m} {y = e} (omega arith) k
  each_append P e m (x ∷ xs) ys q h k = (h.0, each_append P (e + 1) m xs ys (omega arith) h.1 k)

  pub each_left : (P : ℕ → A → Type 0) (e : ℕ) (xs ys : List A) → Each P e (xs ++ ys) → Each P e xs
  each_left P e [] ys h = tt
  each_left P e (x ∷ xs) ys h = (h.0, each_left P (e + 1) xs ys h.1)

  pub each_right : (P : ℕ → A → Type 0) (e m : ℕ) (xs ys : List A) → e + length xs ≡ m → Each P e (xs ++ ys) → Each P m ys
  each_right P e m [] ys q h = subst (λ (i : ℕ). Each P i ys) {x = e} {y = m} (omega arith) h
  each_right P e m (x ∷ xs) ys q h = each_right P (e + 1) m xs ys (omega arith) h.1

  pub each_at : (P : ℕ → A → Type 0) (e : ℕ) (xs : List A) (d : A) → Each P e xs → (i : ℕ) → i < length xs → P (e + i) (get_or xs i d)
  each_at P e [] d h i l = absurd (omega arith)
  each_at P e (x ∷ xs) d h zero l = subst (λ (j : ℕ). P j x) {x = e} {y = e + 0} (omega arith) h.0
  each_at P e (x ∷ xs) d h (suc i) l =
      subst (λ (j : ℕ). P j (get_or xs i d)) {x = e + 1 + i} {y = e + suc i} (omega arith) (each_at P (e + 1) xs d h.1 i (omega arith))

  pub each_of : (P : ℕ → A → Type 0) (e : ℕ) (xs : List A) (d : A) → ((i : ℕ) → i < length xs → P (e + i) (get_or xs i d)) → Each P e xs
  each_of P e [] d f = tt
  each_of P e (x ∷ xs) d f = (
    subst (λ (j : ℕ). P j x) {x = e + 0} {y = e} (omega arith) (f 0 (omega arith)),
    each_of P (e + 1) xs d (λ i l. subst (λ (j : ℕ). P j (get_or xs i d)) {x = e + suc i} {y = e + 1 + i} (omega arith)
        (f (suc i) (omega arith))),
  )

  pub iterate-add : (m n : ℕ) (f : A → A) (a : A) → iterate (m + n) f a ≡ iterate n f (iterate m f a)
  iterate-add zero n f a = ap (λ (k : ℕ). iterate k f a) {x = 0 + n} {y = n} (omega arith)
  iterate-add (suc m) n f a = ap (λ (k : ℕ). iterate k f a) {x = suc m + n} {y = suc (m + n)} (omega arith) ∙ iterate-add m n f (f a)

  -- one round more, taken last
  pub iterate_suc : (n : ℕ) (f : A → A) (a : A) → iterate (suc n) f a ≡ f (iterate n f a)
  iterate_suc zero f a = refl
  iterate_suc (suc n) f a = iterate_suc n f (f a)

  pub iterate_stays : (n : ℕ) (f : A → A) (a : A) → f a ≡ a → iterate n f a ≡ a
  iterate_stays zero f a q = refl
  iterate_stays (suc n) f a q = ap (iterate n f) q ∙ iterate_stays n f a q

  -- what a round keeps, all rounds keep
  pub iterate-keeps : (P : A → Type 0) (n : ℕ) (f : A → A) → ((a : A) → P a → P (f a)) → (a : A) → P a → P (iterate n f a)
  iterate-keeps P zero f h a p = p
  iterate-keeps P (suc n) f h a p = iterate-keeps P n f h (f a) (h a p)

pub get_d_map : {A B : Type 0} (f : A → B) (xs : List A) (i : ℕ) (d : A) (z : B) → i < length xs → get_or (map f xs) i z ≡ f (get_or xs i d)
get_d_map f [] i d z h = absurd (omega arith)
get_d_map f (x ∷ xs) zero d z h = refl
get_d_map f (x ∷ xs) (suc i) d z h = get_d_map f xs i d z (omega arith)

pub length-range : (k n : ℕ) → length (range k n) ≡ n
length-range k zero = refl
length-range k (suc n) = ap suc (length-range (suc k) n)

pub getD_range : (k n i d : ℕ) → i < n → get_or (range k n) i d ≡ k + i
getD_range k zero i d h = absurd (omega arith)
getD_range k (suc n) zero d h = omega arith
getD_range k (suc n) (suc i) d h = omega (arith, getD_range (suc k) n i d (omega arith))
