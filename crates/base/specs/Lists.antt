-- Small functions on lists that the definitions of several layers use. Assumes nothing.
use Rattle.std.specs.Prelude.{Bool, true, false, cond, ◌&&◌, ◌||◌, List, [], ◌∷◌, ◌++◌, ℕ, zero, suc, eqb}
use Rattle.std.proofs.Math.Option.{Option, none, some}

-- the n numbers from k on
abbrev pub range : ℕ → ℕ → List ℕ
range k zero = []
range k (suc n) = k ∷ range (suc k) n

-- x stands at number i of a list
pub data At {A : Type 0} : List A → ℕ → A → Type 0 where
  here : {x : A} {xs : List A} → At (x ∷ xs) zero x
  there : {x y : A} {xs : List A} {i : ℕ} → At xs i x → At (y ∷ xs) (suc i) x

module _ {A B : Type 0} where
  -- what f gives for each element, one after another
  abbrev pub flat_map : (A → List B) → List A → List B
  flat_map f [] = []
  flat_map f (x ∷ xs) = f x ++ flat_map f xs

module _ {A : Type 0} where
  -- whether q holds of some element
  abbrev pub any : (A → Bool) → List A → Bool
  any q [] = false
  any q (x ∷ xs) = let r = any q xs in q x || r

  -- whether q holds of every element
  abbrev pub all : (A → Bool) → List A → Bool
  all q [] = true
  all q (x ∷ xs) = let r = all q xs in q x && r

  -- the elements that q holds of
  abbrev pub filter : (A → Bool) → List A → List A
  filter q [] = []
  filter q (x ∷ xs) = let r = filter q xs in cond (q x) (x ∷ r) r

  -- the first element that q holds of
  abbrev pub first : (A → Bool) → List A → Option A
  first q [] = none
  first q (x ∷ xs) = let r = first q xs in cond (q x) (some x) r

  -- the number of the first element that q holds of, or the length
  abbrev pub index : (A → Bool) → List A → ℕ
  index q [] = 0
  index q (x ∷ xs) = let r = suc (index q xs) in cond (q x) 0 r

  -- f applied n times
  abbrev pub iterate : ℕ → (A → A) → A → A
  iterate zero f a = a
  iterate (suc n) f a = iterate n f (f a)

  -- two lists, element by element
  abbrev pub alike : (A → A → Bool) → List A → List A → Bool
  alike q [] [] = true
  alike q [] (y ∷ ys) = false
  alike q (x ∷ xs) [] = false
  alike q (x ∷ xs) (y ∷ ys) = let r = alike q xs ys in q x y && r

  -- all elements but the first
  abbrev pub tail : List A → List A
  tail [] = []
  tail (x ∷ xs) = xs

-- whether a number is in a list
abbrev pub member : ℕ → List ℕ → Bool
member x xs = any (eqb x) xs

-- whether two Bools are the same
abbrev pub same_bit : Bool → Bool → Bool
same_bit true b = b
same_bit false true = false
same_bit false false = true
