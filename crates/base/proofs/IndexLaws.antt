-- The number of the first element that passes a test: it is below the length exactly if some element passes (`index-any`), one that alone
-- passes stands there (`index_at`), and tests that agree give the same number (`index_same`). Assumes nothing.
use Rattle.std.proofs.Common.{◌≡◌, refl, sym, ap, subst, ◌∙◌, inl, inr, Bool, true, false, cond, ◌||◌, List, [], ◌∷◌, map, ℕ, suc, ◌≤◌}
use Rattle.std.proofs.Common.{arith, lt-ltb, T, ltb, length}
use Rattle.std.proofs.Math.Dec.{leb-suc-suc}
use mathlib.Core.List.{Memᴰ}
use mathlib.Core.List.Memᴰ
use Rattle.base.specs.Lists.{any, index}
use Rattle.base.proofs.BoolLaws.{by_test}
use Rattle.base.proofs.At.{At}

module _ {A : Type 0} (q : A → Bool) where
  pub index-few : (xs : List A) → index q xs ≤ length xs
  index-few [] = omega arith
  index-few (x ∷ xs) = by (q x) (index-few xs)
    where
      by : (b : Bool) → index q xs ≤ length xs → cond b 0 (suc (index q xs)) ≤ suc (length xs)
      by true h = omega arith
      by false h = omega arith

  pub index-any : (xs : List A) → ltb (index q xs) (length xs) ≡ any q xs
  index-any [] = refl
  index-any (x ∷ xs) = by (q x) (index-any xs)
    where
      by : (b : Bool) → ltb (index q xs) (length xs) ≡ any q xs
          → ltb (cond b 0 (suc (index q xs))) (suc (length xs)) ≡ (b || any q xs)
      by true e = lt-ltb 0 (suc (length xs)) (omega arith)
      by false e = leb-suc-suc (suc (index q xs)) (length xs) ∙ e

  pub index_at : (xs : List A) {x : A} → ((y : A) → T (q y) → y ≡ x) → T (q x) → Memᴰ x xs → At xs (index q xs) x
  index_at [] f h m = absurd (Memᴰ.not-nil m)
  index_at (y ∷ ys) {x} f h m =
      by_test (q y) (λ b. At (y ∷ ys) (cond b 0 (suc (index q ys))) x)
      (λ k. subst (λ (z : A). At (z ∷ ys) 0 x) (sym (f y k)) At.here)
      (λ n.
      elim (Memᴰ.cases_cons m)
      [ inl e ↦ absurd (n (subst (λ (z : A). T (q z)) e h)) | inr r ↦ At.there (index_at ys f h r) ])

pub index_same : {A B : Type 0} (q : A → Bool) (r : B → Bool) (f : A → B) (xs : List A) → ((x : A) → Memᴰ x xs → q x ≡ r (f x))
    → index q xs ≡ index r (map f xs)
index_same q r f [] e = refl
index_same q r f (x ∷ xs) e =
    ap (λ (b : Bool). cond b 0 (suc (index q xs))) (e x (Memᴰ.head refl))
    ∙ ap (λ (n : ℕ). cond (r (f x)) 0 (suc n)) (index_same q r f xs (λ y m. e y (Memᴰ.tail m)))
