-- The members of the lists that the shared functions make: of what is gathered, kept, mapped from numbers; what a test of all members
-- says; the parts of a list; and that a list without doubles is no longer than a list that has all its members. Assumes nothing.
use Rattle.std.proofs.Common.{◌≡◌, refl, sym, ap, subst, ◌∙◌, ◌⊎◌, inl, inr, Bool, cond, List, [], ◌∷◌, ◌++◌, map, ℕ, zero, suc, ◌+◌, ◌*◌}
use Rattle.std.proofs.Common.{◌^◌, ◌≤◌, ◌<◌, arith, suc-mul, zero-mul, T, eqb, eqb→eq, length, get_or, length-append}
use Rattle.std.proofs.Math.Dec.{eqb_refl}
use Rattle.std.proofs.Math.Decide.{ℕ_discrete}
use Rattle.std.proofs.Math.ListN.{length-map}
use Rattle.std.proofs.Math.Nat.{pow-succ'}
use Rattle.std.proofs.Math.Path.{subst⁻¹}
use mathlib.Core.List.{Memᴰ, Sublistᴰ}
use mathlib.Core.List.Memᴰ
use Rattle.base.specs.Lists.{range, flat_map, any, all, filter, alike, member}
use Rattle.base.proofs.BoolLaws.{by_test, and_left, and_right, and_both, or_cases, or_left, or_right}

module _ {A B : Type 0} (f : A → List B) where
  pub flat_map_of : (xs : List A) {b : B} → Memᴰ b (flat_map f xs) → (a : A) × Memᴰ a xs × Memᴰ b (f a)
  flat_map_of [] m = absurd (Memᴰ.not-nil m)
  flat_map_of (x ∷ xs) m =
      elim (Memᴰ.append_cases (f x) m)
      [ inl h ↦ (x, Memᴰ.head refl, h) | inr t ↦ let (a, q, h) = flat_map_of xs t in (a, Memᴰ.tail q, h) ]

  pub flat_map_in : {a : A} {xs : List A} {b : B} → Memᴰ a xs → Memᴰ b (f a) → Memᴰ b (flat_map f xs)
  flat_map_in {b} (Memᴰ.head {xs} e) h = Memᴰ.append_left (flat_map f xs) (subst (λ (y : A). Memᴰ b (f y)) e h)
  flat_map_in (Memᴰ.tail {x} m) h = Memᴰ.append_right (f x) (flat_map_in m h)

  pub length-flat_map : (n : ℕ) (xs : List A) → ((a : A) → length (f a) ≡ n) → length (flat_map f xs) ≡ length xs * n
  length-flat_map n [] h = sym (zero-mul n)
  length-flat_map n (x ∷ xs) h = omega (arith, length-append (f x) (flat_map f xs), h x, length-flat_map n xs h, suc-mul (length xs) n)

module _ {A : Type 0} (q : A → Bool) where
  pub any_of : (xs : List A) → T (any q xs) → (a : A) × Memᴰ a xs × T (q a)
  any_of [] h = absurd h
  any_of (x ∷ xs) h =
      elim (or_cases (q x) (any q xs) h)
      [ inl k ↦ (x, Memᴰ.head refl, k) | inr r ↦ let (a, m, k) = any_of xs r in (a, Memᴰ.tail m, k) ]

  pub any_in : {a : A} {xs : List A} → Memᴰ a xs → T (q a) → T (any q xs)
  any_in (Memᴰ.head {x} {xs} e) h = or_left (q x) (any q xs) (subst (λ (b : A). T (q b)) e h)
  any_in (Memᴰ.tail {x} {xs} m) h = or_right (q x) (any q xs) (any_in m h)

  pub all-at : (xs : List A) (d : A) → T (all q xs) → (i : ℕ) → i < length xs → T (q (get_or xs i d))
  all-at [] d h i l = absurd (omega arith)
  all-at (x ∷ xs) d h zero l = and_left (q x) (all q xs) h
  all-at (x ∷ xs) d h (suc i) l = all-at xs d (and_right (q x) (all q xs) h) i (omega arith)

  pub all_in : (xs : List A) (d : A) → ((i : ℕ) → i < length xs → T (q (get_or xs i d))) → T (all q xs)
  all_in [] d h = tt
  all_in (x ∷ xs) d h = and_both (q x) (all q xs) (h 0 (omega arith)) (all_in xs d (λ i l. h (suc i) (omega arith)))

  pub filter_of : (xs : List A) {a : A} → Memᴰ a (filter q xs) → Memᴰ a xs × T (q a)
  filter_of [] m = absurd (Memᴰ.not-nil m)
  filter_of (x ∷ xs) {a} m =
      by_test (q x) (λ b. Memᴰ a (cond b (x ∷ filter q xs) (filter q xs)) → Memᴰ a (x ∷ xs) × T (q a))
      (λ h r.
      elim (Memᴰ.cases_cons r)
      [ inl e ↦ (Memᴰ.head e, subst⁻¹ (λ (b : A). T (q b)) e h) | inr s ↦ (Memᴰ.tail (filter_of xs s).0, (filter_of xs s).1) ])
      (λ h r. (Memᴰ.tail (filter_of xs r).0, (filter_of xs r).1))
      m

  pub filter_in : {a : A} {xs : List A} → Memᴰ a xs → T (q a) → Memᴰ a (filter q xs)
  filter_in {a} (Memᴰ.head {x} {xs} e) h =
      by_test (q x) (λ b. Memᴰ a (cond b (x ∷ filter q xs) (filter q xs)))
      (λ k. Memᴰ.head e)
      (λ k. absurd (k (subst (λ (b : A). T (q b)) e h)))
  filter_in {a} (Memᴰ.tail {x} {xs} m) h =
      by_test (q x) (λ b. Memᴰ a (cond b (x ∷ filter q xs) (filter q xs)))
      (λ k. Memᴰ.tail (filter_in m h))
      (λ k. filter_in m h)

  pub filter-few : (xs : List A) → length (filter q xs) ≤ length xs
  filter-few [] = omega arith
  filter-few (x ∷ xs) =
      by_test (q x) (λ b. length (cond b (x ∷ filter q xs) (filter q xs)) ≤ length (x ∷ xs))
      (λ h. omega (arith, filter-few xs)) (λ h. omega (arith, filter-few xs))

  -- a wider test leaves no fewer
  pub filter-fewer : (r : A → Bool) (xs : List A) → ((x : A) → T (q x) → T (r x)) → length (filter q xs) ≤ length (filter r xs)
  filter-fewer r [] f = omega arith
  filter-fewer r (x ∷ xs) f =
      let rest = filter-fewer r xs f in
      by_test (r x) (λ c. length (filter q (x ∷ xs)) ≤ length (cond c (x ∷ filter r xs) (filter r xs)))
      (λ k. by_test (q x) (λ b. length (cond b (x ∷ filter q xs) (filter q xs)) ≤ suc (length (filter r xs)))
      (λ h. omega (arith, rest)) (λ h. omega (arith, rest)))
      (λ k. by_test (q x) (λ b. length (cond b (x ∷ filter q xs) (filter q xs)) ≤ length (filter r xs))
      (λ h. absurd (k (f x h))) (λ h. rest))

  pub filter-part : (xs : List A) → Sublistᴰ (filter q xs) xs
  filter-part [] = Sublistᴰ.slnil
  filter-part (x ∷ xs) =
      by_test (q x) (λ b. Sublistᴰ (cond b (x ∷ filter q xs) (filter q xs)) (x ∷ xs))
      (λ h. Sublistᴰ.cons-cons refl (filter-part xs))
      (λ h. Sublistᴰ.cons (filter-part xs))

-- the test of two lists, from that of their elements
module _ {A : Type 0} (q : A → A → Bool) where
  pub alike-sound : ((a b : A) → T (q a b) → a ≡ b) → (xs ys : List A) → T (alike q xs ys) → xs ≡ ys
  alike-sound f [] [] h = refl
  alike-sound f [] (y ∷ ys) h = absurd h
  alike-sound f (x ∷ xs) [] h = absurd h
  alike-sound f (x ∷ xs) (y ∷ ys) h =
      let e : x ≡ y = f x y (and_left (q x y) (alike q xs ys) h) in
      let r : xs ≡ ys = alike-sound f xs ys (and_right (q x y) (alike q xs ys) h) in
      λ i. e i ∷ r i

  pub alike_refl : ((a : A) → T (q a a)) → (xs : List A) → T (alike q xs xs)
  alike_refl f [] = tt
  alike_refl f (x ∷ xs) = and_both (q x x) (alike q xs xs) (f x) (alike_refl f xs)

pub member_of : (j : ℕ) (xs : List ℕ) → T (member j xs) → Memᴰ j xs
member_of j xs h = let (i, m, e) = any_of (eqb j) xs h in Memᴰ.cast (eqb→eq j i e) m

pub member_in : {j : ℕ} {xs : List ℕ} → Memᴰ j xs → T (member j xs)
member_in {j} m = any_in (eqb j) m (eqb_refl j)

pub range_in : (k n x : ℕ) → k ≤ x → x < k + n → Memᴰ x (range k n)
range_in k zero x h l = absurd (omega arith)
range_in k (suc n) x h l = go (ℕ_discrete x k) (λ q. range_in (suc k) n x q (omega arith))
  where
    go : Dec (x ≡ k) → (suc k ≤ x → Memᴰ x (range (suc k) n)) → Memᴰ x (k ∷ range (suc k) n)
    go (yes e) f = Memᴰ.head e
    go (no e) f = Memᴰ.tail (f (omega arith))

module _ {A : Type 0} where
  -- all parts of a list, in its order
  abbrev pub parts : List A → List (List A)
  parts [] = [] ∷ []
  parts (x ∷ xs) = parts xs ++ map (λ (l : List A). x ∷ l) (parts xs)

  pub parts_length : (xs : List A) → length (parts xs) ≡ 2 ^ length xs
  parts_length [] = refl
  parts_length (x ∷ xs) =
      omega (
        arith,
        length-append (parts xs) (map (λ (l : List A). x ∷ l) (parts xs)),
        length-map (parts xs) (λ (l : List A). x ∷ l),
        parts_length xs,
        pow-succ' 2 (length xs),
      )

  pub parts_in : {l xs : List A} → Sublistᴰ l xs → Memᴰ l (parts xs)
  parts_in Sublistᴰ.slnil = Memᴰ.head refl
  parts_in (Sublistᴰ.cons {a} {l₂} s) = Memᴰ.append_left (map (λ (l : List A). a ∷ l) (parts l₂)) (parts_in s)
  parts_in (Sublistᴰ.cons-cons {a} {b} {l₁} {l₂} e s) =
      Memᴰ.append_right (parts l₂) (Memᴰ.cast (ap (λ (y : A). y ∷ l₁) e) (Memᴰ.map (λ (l : List A). b ∷ l) (parts_in s)))

  -- a list without one of its members
  pub without : {a : A} {xs : List A} → Memᴰ a xs
      → (ys : List A) × (length xs ≡ suc (length ys)) × ((b : A) → Memᴰ b xs → (b ≡ a) ⊎ Memᴰ b ys)
  without (Memᴰ.head {xs} e) =
      (xs, refl, λ b m. elim (Memᴰ.cases_cons m) [ inl q ↦ inl (q ∙ sym e) | inr r ↦ inr r ])
  without (Memᴰ.tail {x} m) =
      let (ys, n, f) = without m in (
        x ∷ ys,
        ap suc n,
        λ b r.
            elim (Memᴰ.cases_cons r)
            [ inl q ↦ inr (Memᴰ.head q) | inr r' ↦ elim (f b r') [ inl q ↦ inl q | inr s ↦ inr (Memᴰ.tail s) ] ],
      )
