-- Two lists related element by element. Where each element stays the same or becomes smaller, so does the whole list (`total_less`); and
-- rounds that each change nothing or make something smaller come to rest (`comes_to-rest`). Assumes nothing.
use Rattle.std.proofs.Common.{◌≡◌, refl, sym, ap, ◌∙◌, ◌⊎◌, inl, inr, List, [], ◌∷◌, ◌++◌, map, ℕ, zero, suc, ◌+◌, ◌*◌, ◌≤◌, ◌<◌, arith}
use Rattle.std.proofs.Common.{suc-mul, length}
use mathlib.Core.List.{Memᴰ}
use Rattle.base.specs.Lists.{iterate}
use Rattle.base.proofs.ListLaws.{iterate_stays}

-- related element by element
pub data Pairs {A B : Type 0} (P : A → B → Type 0) : List A → List B → Type 0 where
  none : Pairs P [] []
  more : {x : A} {y : B} {xs : List A} {ys : List B} → P x y → Pairs P xs ys → Pairs P (x ∷ xs) (y ∷ ys)

module _ {A B : Type 0} {P : A → B → Type 0} where
  pub pairs_append : {xs zs : List A} {ys ws : List B} → Pairs P xs ys → Pairs P zs ws → Pairs P (xs ++ zs) (ys ++ ws)
  pairs_append Pairs.none q = q
  pairs_append (more h p) q = more h (pairs_append p q)

pub pairs_maps : {A B C : Type 0} {P : A → B → Type 0} (f : C → A) (g : C → B) (xs : List C) → ((x : C) → Memᴰ x xs → P (f x) (g x))
    → Pairs P (map f xs) (map g xs)
pairs_maps f g [] h = Pairs.none
pairs_maps f g (x ∷ xs) h = more (h x (Memᴰ.head refl)) (pairs_maps f g xs (λ y m. h y (Memᴰ.tail m)))

-- a list in place of another, element by element the same or of a smaller size: the same, or of a smaller size in all
module _ {A : Type 0} (P : A → A → Type 0) (size : A → ℕ) (less : (a b : A) → P a b → (a ≡ b) ⊎ (size b < size a)) where
  abbrev pub total : List A → ℕ
  total [] = 0
  total (x ∷ xs) = size x + total xs

  no_more : (a b : A) → (a ≡ b) ⊎ (size b < size a) → size b ≤ size a
  no_more a b h = elim h [ inl e ↦ omega (arith, ap size e) | inr l ↦ omega arith ]

  pub total_less : (xs ys : List A) → Pairs P xs ys → (xs ≡ ys) ⊎ (total ys < total xs)
  total_less [] [] Pairs.none = inl refl
  total_less [] (y ∷ ys) p = elim p [ ]
  total_less (x ∷ xs) [] p = elim p [ ]
  total_less (x ∷ xs) (y ∷ ys) (more h p) =
      elim (total_less xs ys p) [
        | inl e ↦ elim (less x y h) [ inl d ↦ inl (cc) | inr l ↦ inr (omega (arith, ap total e)) ]
        | inr l ↦ inr (omega (arith, no_more x y (less x y h)))
      ]

  pub total_most : (n : ℕ) (xs : List A) → ((x : A) → Memᴰ x xs → size x ≤ n) → total xs ≤ length xs * n
  total_most n [] f = omega arith
  total_most n (x ∷ xs) f =
      omega (arith, f x (Memᴰ.head refl), total_most n xs (λ y m. f y (Memᴰ.tail m)), suc-mul (length xs) n)

-- rounds that each change nothing or make the size smaller come to rest, if there are as many as the size says
module _ {A : Type 0} (f : A → A) (Shape : A → Type 0) (kept : (a : A) → Shape a → Shape (f a)) (size : A → ℕ)
    (less : (a : A) → Shape a → (a ≡ f a) ⊎ (size (f a) < size a))
  where
    pub comes_to-rest : (n : ℕ) (a : A) → Shape a → size a ≤ n → f (iterate n f a) ≡ iterate n f a
    comes_to-rest zero a s l = elim (less a s) [ inl e ↦ sym e | inr k ↦ absurd (omega arith) ]
    comes_to-rest (suc n) a s l =
        elim (less a s) [
          | inl e ↦ let q = iterate_stays (suc n) f a (sym e) in ap f q ∙ sym e ∙ sym q
          | inr k ↦ comes_to-rest n (f a) (kept a s) (omega arith)
        ]
