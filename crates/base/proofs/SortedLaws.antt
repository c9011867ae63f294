-- Lists in which each element stands before those that it is to stand before, for any relation. Assumes nothing.
use Rattle.std.proofs.Common.{◌≡◌, refl, sym, subst, ◌∙◌, ◌⊎◌, inl, inr, List, [], ◌∷◌, ◌++◌, map, ℕ, zero, suc, ◌<◌, arith}
use Rattle.std.proofs.Math.Path.{subst⁻¹}
use mathlib.Core.List.{Memᴰ}
use mathlib.Core.List.Memᴰ
use Rattle.base.specs.Lists.{flat_map, range}
use Rattle.base.proofs.MemberLaws.{flat_map_of}

module _ {A : Type 0} (Ahead : A → A → Type 0) where
  -- each element is ahead of those behind it
  pub data Sorted : List A → Type 0 where
    none : Sorted []
    more : {x : A} {xs : List A} → ((y : A) → Memᴰ y xs → Ahead x y) → Sorted xs → Sorted (x ∷ xs)

  pub sorted_append : {xs ys : List A} → Sorted xs → Sorted ys → ((x y : A) → Memᴰ x xs → Memᴰ y ys → Ahead x y)
      → Sorted (xs ++ ys)
  sorted_append none s f = s
  sorted_append {ys} (more {x} {xs} g r) s f =
      more {x = x} {xs = xs ++ ys}
      (λ y m. elim (Memᴰ.append_cases xs {t = ys} m) [ inl a ↦ g y a | inr b ↦ f x y (Memᴰ.head refl) b ])
      (sorted_append r s (λ a b p q. f a b (Memᴰ.tail p) q))

  -- an element is ahead of those behind it
  pub sorted_behind : (xs : List A) (x : A) (ys : List A) → Sorted (xs ++ (x ∷ ys)) → (y : A) → Memᴰ y ys → Ahead x y
  sorted_behind [] x ys (more f s) = f
  sorted_behind (z ∷ xs) x ys (more f s) = sorted_behind xs x ys s

  pub sorted_tail : {x : A} {xs : List A} → Sorted (x ∷ xs) → Sorted xs
  sorted_tail (more f s) = s

  -- of two elements of a list one is ahead of the other, or they are one
  pub sorted_either : {xs : List A} → Sorted xs → {x y : A} → Memᴰ x xs → Memᴰ y xs → (x ≡ y) ⊎ (Ahead x y ⊎ Ahead y x)
  sorted_either none m n = absurd (Memᴰ.not-nil m)
  sorted_either (more {x = z} {xs = zs} f s) {x} {y} m n =
      elim (Memᴰ.cases_cons m) [
        | inl e ↦
            elim (Memᴰ.cases_cons n)
            [ inl d ↦ inl (e ∙ sym d) | inr q ↦ inr (inl (subst⁻¹ (λ (a : A). Ahead a y) e (f y q))) ]
        | inr p ↦
            elim (Memᴰ.cases_cons n)
            [ inl d ↦ inr (inr (subst⁻¹ (λ (a : A). Ahead a x) d (f x p))) | inr q ↦ sorted_either s p q ]
      ]

module _ {A B : Type 0} (Ahead : A → A → Type 0) (Ahead' : B → B → Type 0) where
  pub sorted_flat_map : (f : A → List B) (xs : List A) → Sorted Ahead xs → ((x : A) → Memᴰ x xs → Sorted Ahead' (f x))
      → ((x y : A) → Memᴰ x xs → Memᴰ y xs → Ahead x y → (a b : B) → Memᴰ a (f x) → Memᴰ b (f y) → Ahead' a b)
      → Sorted Ahead' (flat_map f xs)
  sorted_flat_map f [] s g h = Sorted.none
  sorted_flat_map f (x ∷ xs) (Sorted.more a s) g h =
      sorted_append Ahead' (g x (Memᴰ.head refl))
      (sorted_flat_map f xs s (λ y m. g y (Memᴰ.tail m)) (λ y z p q. h y z (Memᴰ.tail p) (Memᴰ.tail q)))
      (λ b c p q.
      let (y, m, r) = flat_map_of f xs q in
      h x y (Memᴰ.head refl) (Memᴰ.tail m) (a y m) b c p r)

  pub sorted_map : (f : A → B) (xs : List A) → Sorted Ahead xs
      → ((x y : A) → Memᴰ x xs → Memᴰ y xs → Ahead x y → Ahead' (f x) (f y))
      → Sorted Ahead' (map f xs)
  sorted_map f [] s h = Sorted.none
  sorted_map f (x ∷ xs) (Sorted.more a s) h =
      Sorted.more {x = f x} {xs = map f xs}
      (λ b q.
      let (y, m, r) = Memᴰ.of_map f xs q in
      subst (Ahead' (f x)) r (h x y (Memᴰ.head refl) (Memᴰ.tail m) (a y m)))
      (sorted_map f xs s (λ y z p q. h y z (Memᴰ.tail p) (Memᴰ.tail q)))

pub range_sorted : (k n : ℕ) → Sorted ◌<◌ (range k n)
range_sorted k zero = Sorted.none
range_sorted k (suc n) = Sorted.more {x = k} {xs = range (suc k) n} (λ y m. above k n m) (range_sorted (suc k) n)
  where
    above : (k n : ℕ) {x : ℕ} → Memᴰ x (range (suc k) n) → k < x
    above k zero m = absurd (Memᴰ.not-nil m)
    above k (suc n) m = elim (Memᴰ.cases_cons m) [ inl e ↦ omega arith | inr r ↦ omega (arith, above (suc k) n r) ]
