-- The shared functions on lists that are put together: gathering, keeping and testing go part by part, a run of numbers can be cut
-- anywhere, and gathering goes through maps; and two lists that are equal have equal parts. Assumes nothing.
use Rattle.std.proofs.Common.{◌≡◌, refl, sym, ap, ◌∙◌, inl, inr, Bool, true, false, cond, ◌||◌, List, [], ◌∷◌, ◌++◌, map, append_assoc, ℕ}
use Rattle.std.proofs.Common.{zero, suc, ◌+◌, ◌<◌, zero-add, suc-add, add-suc, add-zero, arith, length, length-append}
use mathlib.Core.List.{map-append, Memᴰ}
use mathlib.Core.List.Memᴰ
use Rattle.base.specs.Lists.{range, flat_map, any, filter}

pub any_append : {A : Type 0} (q : A → Bool) (xs ys : List A) → any q (xs ++ ys) ≡ (any q xs || any q ys)
any_append q [] ys = refl
any_append q (x ∷ xs) ys = ap (λ (b : Bool). q x || b) (any_append q xs ys) ∙ assoc (q x) (any q xs) (any q ys)
  where
    assoc : (a b c : Bool) → (a || (b || c)) ≡ ((a || b) || c)
    assoc true b c = refl
    assoc false b c = refl

pub filter-append : {A : Type 0} (q : A → Bool) (xs ys : List A) → filter q (xs ++ ys) ≡ filter q xs ++ filter q ys
filter-append q [] ys = refl
filter-append {A} q (x ∷ xs) ys = by (filter-append q xs ys) (q x)
  where
    by : filter q (xs ++ ys) ≡ filter q xs ++ filter q ys → (b : Bool)
        → cond b (x ∷ filter q (xs ++ ys)) (filter q (xs ++ ys)) ≡ cond b (x ∷ filter q xs) (filter q xs) ++ filter q ys
    by e true = ap (λ (l : List A). x ∷ l) e
    by e false = e

pub flat_map_append : {A B : Type 0} (f : A → List B) (xs ys : List A) → flat_map f (xs ++ ys) ≡ flat_map f xs ++ flat_map f ys
flat_map_append f [] ys = refl
flat_map_append f (x ∷ xs) ys = rw (flat_map_append f xs ys) (sym (append_assoc (f x) (flat_map f xs) (flat_map f ys)))

pub flat_map_map : {A B C : Type 0} (f : B → List C) (g : A → B) (xs : List A) → flat_map f (map g xs) ≡ flat_map (λ (x : A). f (g x)) xs
flat_map_map f g [] = refl
flat_map_map f g (x ∷ xs) = rw (flat_map_map f g xs)

pub map-flat_map : {A B C : Type 0} (f : B → C) (g : A → List B) (xs : List A)
    → map f (flat_map g xs) ≡ flat_map (λ (x : A). map f (g x)) xs
map-flat_map f g [] = refl
map-flat_map f g (x ∷ xs) = map-append f (g x) (flat_map g xs) ∙ rw (map-flat_map f g xs)

pub range-append : (k n m : ℕ) → range k (n + m) ≡ range k n ++ range (k + n) m
range-append k zero m = rw (zero-add m, add-zero k)
range-append k (suc n) m = rw (suc-add n m, range-append (suc k) n m, suc-add k n, add-suc k n)

-- one number more
pub range-more : (n : ℕ) → range 0 (n + 1) ≡ range 0 n ++ (n ∷ [])
range-more n = range-append 0 n 1 ∙ rw (zero-add n)

pub range_of : (k n : ℕ) {x : ℕ} → Memᴰ x (range k n) → x < k + n
range_of k zero m = absurd (Memᴰ.not-nil m)
range_of k (suc n) m = elim (Memᴰ.cases_cons m) [ inl e ↦ omega arith | inr r ↦ omega (arith, range_of (suc k) n r) ]

-- parts of the same lengths, one by one
pub append_cancel : {A : Type 0} (xs ys : List A) {us vs : List A} → length xs ≡ length ys → xs ++ us ≡ ys ++ vs → (xs ≡ ys) × (us ≡ vs)
append_cancel [] [] h e = (refl, e)
append_cancel [] (y ∷ ys) h e = absurd (omega arith)
append_cancel (x ∷ xs) [] h e = absurd (omega arith)
append_cancel {A} (x ∷ xs) (y ∷ ys) {us} {vs} h e =
    let (p, q) = append_cancel xs ys (omega arith) (behind e) in
    ((λ i. front e i ∷ p i), q)
  where
    front : x ∷ (xs ++ us) ≡ y ∷ (ys ++ vs) → x ≡ y
    front e = cc

    behind : x ∷ (xs ++ us) ≡ y ∷ (ys ++ vs) → xs ++ us ≡ ys ++ vs
    behind e = cc

-- all elements but the last, and the last
pub last_cancel : {A : Type 0} (xs ys : List A) (x y : A) → xs ++ (x ∷ []) ≡ ys ++ (y ∷ []) → (xs ≡ ys) × (x ≡ y)
last_cancel xs ys x y e =
    let h : length xs ≡ length ys = omega (arith, ap length e, length-append xs (x ∷ []), length-append ys (y ∷ [])) in
    let (p, q) = append_cancel xs ys h e in
    (p, only q)
  where
    only : x ∷ [] ≡ y ∷ [] → x ≡ y
    only e = cc
