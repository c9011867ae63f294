-- How long the ways of a search are. Of the items those with ways of at most l labels (`within`) are no more than those of at most m, where
-- l is at most m, and no more than all; no vertex is among them twice if none is among all. Each way is as long as a start's, or longer by
-- one than that of an item found before it; so the items with ways no longer than a given one are at least as many as its labels, up to the
-- length of a start (`search_short_within`). Assumes nothing.
use Rattle.std.proofs.Common.{◌≡◌, refl, sym, ap, subst, ◌∙◌, ◌⊎◌, inl, inr, Bool, cond, List, [], ◌∷◌, ◌++◌, append-nil, append_assoc, ℕ}
use Rattle.std.proofs.Common.{suc, ◌+◌, ◌≤◌, ◌<◌, arith, leb, leb→le, le→leb, length, length-append}
use Rattle.std.proofs.Math.Path.{subst⁻¹}
use mathlib.Core.List.{Memᴰ}
use mathlib.Core.List.Memᴰ
use Rattle.base.specs.Search.{Edge, Item, fresh, search_from, within}
use Rattle.base.proofs.BoolLaws.{by_test}
use Rattle.base.proofs.MemberLaws.{filter_of, filter_in, filter-few, filter-fewer}
use Rattle.base.proofs.AppendLaws.{filter-append}
use Rattle.base.proofs.SearchLaws.{Distinct, new_items, new_onward, fresh-given, walk-keeps}

module _ {L K : Type 0} (l : ℕ) where
  abbrev short : Item L K → Bool
  short x = leb (length x.way) l

  pub within_of : (xs : List (Item L K)) {x : Item L K} → Memᴰ x (within l xs) → Memᴰ x xs × (length x.way ≤ l)
  within_of xs {x} m = let (a, b) = filter_of short xs m in (a, leb→le (length x.way) l b)

  pub within_in : {xs : List (Item L K)} {x : Item L K} → Memᴰ x xs → length x.way ≤ l → Memᴰ x (within l xs)
  within_in {x = x} m h = filter_in short m (le→leb (length x.way) l h)

  pub within-few : (xs : List (Item L K)) → length (within l xs) ≤ length xs
  within-few xs = filter-few short xs

  pub within_more : (m : ℕ) → l ≤ m → (xs : List (Item L K)) → length (within l xs) ≤ length (within m xs)
  within_more m h xs =
      filter-fewer short (λ x. leb (length x.way) m) xs
      (λ x t. le→leb (length x.way) m (omega (arith, leb→le (length x.way) l t)))

  pub within_distinct : {xs : List (Item L K)} → Distinct xs → Distinct (within l xs)
  within_distinct Distinct.none = Distinct.none
  within_distinct (Distinct.more {x} {xs} n d) =
      by_test (short x) (λ b. Distinct (cond b (x ∷ within l xs) (within l xs)))
      (λ h. Distinct.more {x = x} {xs = within l xs} (λ v. n (v.0, (within_of xs v.1).0, v.2)) (within_distinct d))
      (λ h. within_distinct d)

-- Each way is as long as that of a start, c, or longer by one than that of an item found before it.
module _ {L K : Type 0} (c : ℕ) where
  abbrev Based : List (Item L K) → Item L K → Type 0
  Based xs x = (length x.way ≡ c) ⊎ ((y : Item L K) × Memᴰ y xs × (length x.way ≡ suc (length y.way)))

  data Grounded : List (Item L K) → Type 0 where
    none : Grounded []
    more : {xs : List (Item L K)} (x : Item L K) → Grounded xs → Based xs x → Grounded (xs ++ (x ∷ []))

  based_more : (xs ys : List (Item L K)) (x : Item L K) → Based xs x → Based (xs ++ ys) x
  based_more xs ys x b = elim b [ inl e ↦ inl e | inr p ↦ inr (p.0, Memᴰ.append_left ys p.1, p.2) ]

  grounded_append : (xs ys : List (Item L K)) → Grounded xs → ((y : Item L K) → Memᴰ y ys → Based xs y) → Grounded (xs ++ ys)
  grounded_append xs [] g f = subst⁻¹ Grounded (append-nil xs) g
  grounded_append xs (y ∷ ys) g f =
      subst Grounded (append_assoc xs (y ∷ []) ys)
      (grounded_append (xs ++ (y ∷ [])) ys (more y g (f y (Memᴰ.head refl)))
      (λ z m. based_more xs (y ∷ []) z (f z (Memᴰ.tail m))))

  -- the item before is shorter, so it is among the short ones where its successor is
  based_within : (l : ℕ) (xs : List (Item L K)) (x : Item L K) → length x.way ≤ l → Based xs x → Based (within l xs) x
  based_within l xs x h b =
      elim b [ inl e ↦ inl e | inr p ↦ inr (p.0, within_in l p.1 (omega (arith, p.2)), p.2) ]

  grounded_within : (l : ℕ) {xs : List (Item L K)} → Grounded xs → Grounded (within l xs)
  grounded_within l none = none
  grounded_within l (more {xs} x g b) =
      subst⁻¹ Grounded (filter-append (short l) xs (x ∷ []))
      (by_test (short l x) (λ t. Grounded (within l xs ++ cond t (x ∷ []) []))
      (λ h. more x (grounded_within l g) (based_within l xs x (leb→le (length x.way) l h) b))
      (λ h. subst⁻¹ Grounded (append-nil (within l xs)) (grounded_within l g)))

  grounded_short : (xs : List (Item L K)) → Grounded xs → (x : Item L K) → Memᴰ x xs → length x.way < c + length xs
  grounded_short xs none x m = absurd (Memᴰ.not-nil m)
  grounded_short zs (more {xs} z g b) x m =
      let n = length-append xs (z ∷ []) in
      elim (Memᴰ.append_cases xs {t = z ∷ []} m) [
        | inl p ↦ omega (arith, grounded_short xs g x p)
        | inr q ↦
            let e : length x.way ≡ length z.way = ap (λ (i : Item L K). length i.way) (Memᴰ.eq_of_singleton q) in
            elim b [ inl s ↦ omega arith | inr p ↦ omega (arith, grounded_short xs g p.0 p.1, p.2) ]
      ]

module _ {L K : Type 0} (same : K → K → Bool) (edges : K → List (Edge L K)) (c fuel : ℕ) (starts : List (Item L K))
    (begun : (y : Item L K) → Memᴰ y starts → length y.way ≡ c)
  where
    abbrev found : List (Item L K)
    found = search_from same edges fuel starts

    search_grounded : Grounded c found
    search_grounded =
        walk-keeps same edges (Grounded c)
        (λ z done queue g.
        grounded_append c (done ++ (z ∷ queue)) (new_items same edges z done queue) g
        (λ y m.
        let (e, r, q) = new_onward same edges z done queue m in
        inr (
          z,
          Memᴰ.append_right done (Memᴰ.head refl),
          ap (λ (i : Item L K). length i.way) (sym q) ∙ omega (arith, length-append z.way (e.label ∷ [])),
        )))
        fuel [] (fresh same edges [] starts)
        (grounded_append c [] (fresh same edges [] starts) none (λ y m. inl (begun y (fresh-given same edges [] starts m))))

    -- Theorem: where the starts' ways have c labels, a way has fewer than c and the number of items with ways no longer,
    pub search_short_within : {x : Item L K} → Memᴰ x found → length x.way < c + length (within (length x.way) found)
    search_short_within {x} m =
        let l = length x.way in
        grounded_short c (within l found) (grounded_within c l search_grounded) x (within_in l m (omega arith))

    -- and so than c and the number of all.
    pub search-short : {x : Item L K} → Memᴰ x found → length x.way < c + length found
    search-short {x} m = omega (arith, search_short_within m, within-few (length x.way) found)
