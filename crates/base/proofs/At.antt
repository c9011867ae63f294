-- The element at a number of a list, as data: it stays there when the list goes on. Where the elements before it fail a test that it
-- passes, it is the first that passes. Assumes nothing.
use Rattle.std.proofs.Common.{◌≡◌, refl, sym, ap, subst, ◌∙◌, ◌⊎◌, inl, inr, Bool, cond, List, [], ◌∷◌, ◌++◌, map, ℕ, zero, suc, ◌<◌}
use Rattle.std.proofs.Common.{arith, T, length, get_or, drop}
use Rattle.std.proofs.Math.Option.{Option}
use mathlib.Core.List.{Memᴰ}
use Rattle.base.specs.Lists.{first}
pub use Rattle.base.specs.Lists.{At, here, there}
use Rattle.base.proofs.BoolLaws.{by_test, of_T}
use Rattle.base.proofs.TestLaws.{not_of_T}

module _ {A : Type 0} where
  pub at_lt : {xs : List A} {i : ℕ} {x : A} → At xs i x → i < length xs
  at_lt here = omega arith
  at_lt (there a) = omega (arith, at_lt a)

  pub at_get : {xs : List A} {i : ℕ} {x : A} → At xs i x → (d : A) → get_or xs i d ≡ x
  at_get here d = refl
  at_get (there a) d = at_get a d

  pub at_in : {xs : List A} {i : ℕ} {x : A} → At xs i x → Memᴰ x xs
  at_in here = Memᴰ.head refl
  at_in (there a) = Memᴰ.tail (at_in a)

  pub in_at : {x : A} {xs : List A} → Memᴰ x xs → (i : ℕ) × At xs i x
  in_at {x = x} (Memᴰ.head {xs} e) = (0, subst (λ (y : A). At (y ∷ xs) 0 x) e here)
  in_at (Memᴰ.tail m) = let (i, a) = in_at m in (suc i, there a)

  pub at_of : (xs : List A) (i : ℕ) (d : A) → i < length xs → At xs i (get_or xs i d)
  at_of [] i d h = absurd (omega arith)
  at_of (x ∷ xs) zero d h = here
  at_of (x ∷ xs) (suc i) d h = there (at_of xs i d (omega arith))

  pub at_some : (xs : List A) (i : ℕ) → i < length xs → (x : A) × At xs i x
  at_some [] i h = absurd (omega arith)
  at_some (x ∷ xs) zero h = (x, here)
  at_some (x ∷ xs) (suc i) h = let (y, a) = at_some xs i (omega arith) in (y, there a)

  -- a number has one element
  pub at_one : {xs : List A} {i : ℕ} {x y : A} → At xs i x → At xs i y → x ≡ y
  at_one {x = x} a b = sym (at_get a x) ∙ at_get b x

  pub at_left : {xs : List A} (ys : List A) {i : ℕ} {x : A} → At xs i x → At (xs ++ ys) i x
  at_left ys here = here
  at_left ys (there a) = there (at_left ys a)

  pub at_before : (xs ys : List A) {i : ℕ} {x : A} → At (xs ++ ys) i x → i < length xs → At xs i x
  at_before [] ys a h = absurd (omega arith)
  at_before (y ∷ xs) ys here h = here
  at_before (y ∷ xs) ys (there a) h = there (at_before xs ys a (omega arith))

  pub at_next : (xs : List A) (x : A) (ys : List A) → At (xs ++ (x ∷ ys)) (length xs) x
  at_next [] x ys = here
  at_next (y ∷ xs) x ys = there (at_next xs x ys)

  -- in a list with one element more it stands there before, or is the last
  pub at_split : (xs : List A) (z : A) {i : ℕ} {x : A} → At (xs ++ (z ∷ [])) i x → At xs i x ⊎ ((i ≡ length xs) × (x ≡ z))
  at_split [] z here = inr (refl, refl)
  at_split [] z (there {i = i} a) = elim a [ ]
  at_split (y ∷ xs) z here = inl here
  at_split (y ∷ xs) z (there a) = elim (at_split xs z a) [ inl b ↦ inl (there b) | inr e ↦ inr (ap suc e.0, e.1) ]

  pub at_drop : {xs : List A} {i : ℕ} {x : A} → At xs i x → (ys : List A) × (drop i xs ≡ x ∷ ys)
  at_drop (here {xs}) = (xs, refl)
  at_drop (there a) = at_drop a

pub at_map : {A B : Type 0} (f : A → B) {xs : List A} {i : ℕ} {x : A} → At xs i x → At (map f xs) i (f x)
at_map f here = here
at_map f (there a) = there (at_map f a)

pub at_unmap : {A B : Type 0} (f : A → B) (xs : List A) {i : ℕ} {y : B} → At (map f xs) i y → (x : A) × At xs i x × (f x ≡ y)
at_unmap {A = A} {B = B} f [] {i = i} {y = y} a = elim a [ ]
at_unmap f (x ∷ xs) here = (x, here, refl)
at_unmap f (x ∷ xs) (there a) = let (z, b, e) = at_unmap f xs a in (z, there b, e)

-- the first element that passes a test: the one at a number, where none before it passes
module _ {A : Type 0} (q : A → Bool) where
  pub first-at : {xs : List A} {i : ℕ} {x : A} → At xs i x → T (q x) → ((j : ℕ) (y : A) → At xs j y → j < i → T (q y) → ⊥)
      → first q xs ≡ Option.some x
  first-at (here {x} {xs}) h f = ap (λ (b : Bool). cond b (Option.some x) (first q xs)) (of_T (q x) h)
  first-at (there {y} {xs} a) h f =
      ap (λ (b : Bool). cond b (Option.some y) (first q xs)) (not_of_T (q y) (f 0 y here (omega arith)))
      ∙ first-at a h (λ j z b l. f (suc j) z (there b) (omega arith))

  pub first-nowhere : (xs : List A) → ((j : ℕ) (y : A) → At xs j y → T (q y) → ⊥) → first q xs ≡ Option.none
  first-nowhere [] f = refl
  first-nowhere (x ∷ xs) f =
      ap (λ (b : Bool). cond b (Option.some x) (first q xs)) (not_of_T (q x) (f 0 x here))
      ∙ first-nowhere xs (λ j y a. f (suc j) y (there a))

  -- and where there is one, it stands somewhere
  pub first-stands : (xs : List A) {x : A} → first q xs ≡ Option.some x → (i : ℕ) × At xs i x × T (q x)
  first-stands [] e = absurd (let z : ◌≡◌ {A = ℕ} 0 1 = cc in omega arith)
  first-stands (y ∷ ys) {x} e =
      by_test (q y) (λ b. cond b (Option.some y) (first q ys) ≡ Option.some x → (i : ℕ) × At (y ∷ ys) i x × T (q x))
      (λ h r. let i : y ≡ x = cc in (0, subst (λ (z : A). At (y ∷ ys) 0 z) i here, subst (λ (z : A). T (q z)) i h))
      (λ h r. let (i, a, g) = first-stands ys r in (suc i, there a, g))
      e
