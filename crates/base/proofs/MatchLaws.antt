-- The search over one list (specs/Spread.antt) and the search that keeps whole ways (specs/Search.antt) find the same, in the same order.
-- `Codes` says which vertex of the one stands for which of the other, one for one; `Matches` says of two lists of items that at equal
-- numbers stand vertices that stand for each other, that a parent comes before its item, and that an item's way has the letters of its
-- parent's way and then its own: what `own` says, so that a start may have a label or an empty way. A turn of the one keeps up with a turn
-- of the other (`adds_matches`), also where the first goes on by fewer edges, if what the missing ones lead to is among the rest (`Thins`).
-- So the searches match (`search_matches`), and the labels along the parents are those of the way (`labels-letters`). Assumes nothing.
use Rattle.std.proofs.Common.{◌≡◌, refl, sym, ap, subst, ◌∙◌, inl, inr, Bool, cond, List, [], ◌∷◌, ◌++◌, map, append-nil, append_assoc, ℕ}
use Rattle.std.proofs.Common.{zero, suc, ◌+◌, ◌≤◌, ◌<◌, arith, T, length, length-append}
use Rattle.std.proofs.Math.Path.{subst⁻¹}
use mathlib.Core.List.{map-append, Memᴰ}
use mathlib.Core.List.Memᴰ
use Rattle.base.specs.Lists.{any}
use Rattle.base.specs.Search.{Edge, Item, seen_in, fresh, walk, search_from}
use Rattle.base.proofs.BoolLaws.{by_test, of_T}
use Rattle.base.proofs.TestLaws.{same_truth}
use Rattle.base.proofs.MemberLaws.{any_of, any_in}
use Rattle.base.proofs.At.{At, at_lt, at_one, at_some, at_left, at_next, at_split}
use Rattle.base.proofs.Pairs.{Pairs}
use Rattle.base.proofs.SearchLaws.{Visits, visits_cons, onwards, new_items, seen_visits, regroup}
use Rattle.base.specs.Spread.{Numbered, seen, adds, spread, labels_to, Linked}
use Rattle.base.proofs.SpreadLaws.{spread-done, spread-step, labels_next}

any_ext : {A : Type 0} (q : A → Bool) (xs ys : List A) → ((x : A) → Memᴰ x xs → Memᴰ x ys) → T (any q xs) → T (any q ys)
any_ext q xs ys f h = let (a, m, k) = any_of q xs h in any_in q (f a m) k

-- the new items depend only on which items are seen, not on their order
fresh-seen : {L K : Type 0} (same : K → K → Bool) (edges : K → List (Edge L K)) (s r xs : List (Item L K))
    → ((x : Item L K) → Memᴰ x s → Memᴰ x r) → ((x : Item L K) → Memᴰ x r → Memᴰ x s)
    → fresh same edges s xs ≡ fresh same edges r xs
fresh-seen same edges s r [] f g = refl
fresh-seen {L} {K} same edges s r (x ∷ xs) f g =
    let q : Item L K → Bool = λ y. same x.at y.at in
    let e : seen_in same edges s x.at ≡ seen_in same edges r x.at =
    same_truth (any q s) (any q r) (any_ext q s r f) (any_ext q r s g) in
    ap (λ (b : Bool). cond b (fresh same edges s xs) (x ∷ fresh same edges (x ∷ s) xs)) e
    ∙ ap (λ (l : List (Item L K)). cond (seen_in same edges r x.at) l (x ∷ fresh same edges (x ∷ s) xs))
    (fresh-seen same edges s r xs f g)
    ∙ ap (λ (l : List (Item L K)). cond (seen_in same edges r x.at) (fresh same edges r xs) (x ∷ l))
    (fresh-seen same edges (x ∷ s) (x ∷ r) xs (one_more f) (one_more g))
  where
    one_more : {a b : List (Item L K)} → ((y : Item L K) → Memᴰ y a → Memᴰ y b) → (y : Item L K) → Memᴰ y (x ∷ a)
        → Memᴰ y (x ∷ b)
    one_more h y m = elim (Memᴰ.cases_cons m) [ inl e ↦ Memᴰ.head e | inr r ↦ Memᴰ.tail (h y r) ]

walk-length : {L K : Type 0} (same : K → K → Bool) (edges : K → List (Edge L K)) (fuel : ℕ) (done queue : List (Item L K))
    → length done + length queue ≤ length (walk same edges fuel done queue)
walk-length same edges zero done queue = omega (arith, length-append done queue)
walk-length same edges (suc fuel) done [] = omega arith
walk-length same edges (suc fuel) done (x ∷ queue) =
    let new = new_items same edges x done queue in
    omega (arith, walk-length same edges fuel (done ++ (x ∷ [])) (queue ++ new), length-append done (x ∷ []), length-append queue new)

-- Two searches: J, M are the vertices and labels of the one over one list, K, L those of the one that keeps ways.
module _ {L K M J : Type 0} (letter : L → M) (own : Numbered M J → List M) (Codes : J → K → Type 0) where
  abbrev pub letters : Item L K → List M
  letters y = map letter y.way

  -- the letters of the way to the item whose number is one less, if ys are the items: before a start there are none
  pub data Before (ys : List (Item L K)) : ℕ → List M → Type 0 where
    start : Before ys 0 []
    item : {i : ℕ} {y : Item L K} → At ys i y → Before ys (suc i) (letters y)

  before_more : {ys : List (Item L K)} (zs : List (Item L K)) {k : ℕ} {ls : List M} → Before ys k ls → Before (ys ++ zs) k ls
  before_more zs start = start
  before_more zs (item a) = item (at_left zs a)

  before-low : {ys : List (Item L K)} {k : ℕ} {ls : List M} → Before ys k ls → k ≤ length ys
  before-low start = omega arith
  before-low (item a) = omega (arith, at_lt a)

  -- x stands for y, if ys are the items before it
  pub record Follows (ys : List (Item L K)) (x : Numbered M J) (y : Item L K) : Type 0 where
    pub codes : Codes x.at y.at
    pub before : List M
    pub parent : Before ys x.parent before
    pub way : letters y ≡ before ++ own x

  pub follows-more : (ys zs : List (Item L K)) (x : Numbered M J) (y : Item L K) → Follows ys x y → Follows (ys ++ zs) x y
  follows-more ys zs x y f =
      record { codes = f.codes; before = f.before; parent = before_more zs f.parent; way = f.way }

  pub data Matches : List (Numbered M J) → List (Item L K) → Type 0 where
    none : Matches [] []
    more : {xs : List (Numbered M J)} {ys : List (Item L K)} {x : Numbered M J} {y : Item L K} → Matches xs ys → Follows ys x y
        → Matches (xs ++ (x ∷ [])) (ys ++ (y ∷ []))

  pub matches_length : {xs : List (Numbered M J)} {ys : List (Item L K)} → Matches xs ys → length xs ≡ length ys
  matches_length none = refl
  matches_length (more {xs} {ys} {x} {y} m f) = omega (arith, length-append xs (x ∷ []), length-append ys (y ∷ []), matches_length m)

  -- the candidates xs for those of ys, where s is seen: some are left out, at vertices that are seen before
  pub data Thins (all : List (Item L K)) : List (Item L K) → List (Numbered M J) → List (Item L K) → Type 0 where
    none : {s : List (Item L K)} → Thins all s [] []
    both : {s : List (Item L K)} {x : Numbered M J} {y : Item L K} {xs : List (Numbered M J)} {ys : List (Item L K)}
        → Follows all x y → Thins all (y ∷ s) xs ys → Thins all s (x ∷ xs) (y ∷ ys)
    skip : {s : List (Item L K)} {y : Item L K} {xs : List (Numbered M J)} {ys : List (Item L K)}
        → Visits y.at s → Thins all s xs ys → Thins all s xs (y ∷ ys)

  -- what stands at a number of the second list has its match at that number of the first
  pub matches_at : {xs : List (Numbered M J)} {ys : List (Item L K)} → Matches xs ys → {i : ℕ} {y : Item L K} → At ys i y
      → (x : Numbered M J) × At xs i x × Follows ys x y × (x.parent ≤ i)
  matches_at none a = absurd (omega (arith, at_lt a))
  matches_at (more {xs} {ys} {x} {y} m f) a =
      elim (at_split ys y a) [
        | inl b ↦
            let (z, c, g, l) = matches_at m b in
            (z, at_left (x ∷ []) c, follows-more ys (y ∷ []) z _ g, l)
        | inr b ↦ (
          x,
          subst⁻¹ (λ (n : ℕ). At (xs ++ (x ∷ [])) n x) (b.0 ∙ sym (matches_length m)) (at_next xs x []),
          subst⁻¹ (λ (w : Item L K). Follows (ys ++ (y ∷ [])) x w) b.1 (follows-more ys (y ∷ []) x y f),
          omega (arith, before-low f.parent, b.0),
        )
      ]

  -- a way's letters are the labels along the parents, where `of` gives the item of each number below n
  module _ {xs : List (Numbered M J)} {ys : List (Item L K)} (m : Matches xs ys) (of : ℕ → Numbered M J) {n : ℕ} (few : n ≤ length xs)
      (stands : (i : ℕ) → i < n → At xs i (of i))
    where
      -- each item follows its counterpart
      counterpart : {i : ℕ} {y : Item L K} → At ys i y → i < n → Follows ys (of i) y × ((of i).parent ≤ i)
      counterpart {i} {y} a h =
          let (x, b, f, l) = matches_at m a in
          subst (λ (z : Numbered M J). Follows ys z y × (z.parent ≤ i)) (at_one b (stands i h)) (f, l)

      pub matches_linked : Linked of n
      matches_linked i h =
          let (y, a) = at_some ys i (omega (arith, matches_length m)) in
          (counterpart a h).1

      -- given what holds up to each earlier item
      up_to : (i : ℕ) → ((j : ℕ) (z : Item L K) → At ys j z → j < i → labels_to own of (suc j) ≡ letters z) → {k : ℕ} {ls : List M}
          → Before ys k ls → k ≤ i → labels_to own of k ≡ ls
      up_to i f start h = refl
      up_to i f (item {i = j} {y = z} a) h = f j z a (omega arith)

      labels-below : (bound i : ℕ) (y : Item L K) → At ys i y → i < bound → i < n → labels_to own of (suc i) ≡ letters y
      labels-below zero i y a h k = absurd (omega arith)
      labels-below (suc bound) i y a h k =
          let (f, l) = counterpart a k in
          labels_next own of matches_linked i k
          ∙ ap (λ (ls : List M). ls ++ own (of i))
          (up_to i (λ j z b r. labels-below bound j z b (omega arith) (omega arith)) f.parent l)
          ∙ sym f.way

      pub labels-letters : {i : ℕ} {y : Item L K} → At ys i y → i < n → labels_to own of (suc i) ≡ letters y
      labels-letters {i} {y} a h = labels-below (suc i) i y a (omega arith) h

  module _ (same : K → K → Bool) (edges : K → List (Edge L K)) (sound : (a b : K) → T (same a b) → a ≡ b)
      (reflexive : (a : K) → T (same a a))
      (same' : J → J → Bool) (sound' : (a b : J) → T (same' a b) → a ≡ b) (reflexive' : (a : J) → T (same' a a))
      (one-k : (j : J) (k l : K) → Codes j k → Codes j l → k ≡ l) (one-j : (i j : J) (k : K) → Codes i k → Codes j k → i ≡ j)
    where
      -- one is seen where the other is
      visits_of : {xs : List (Numbered M J)} {ys : List (Item L K)} → Matches xs ys → {j : J} {k : K} → Codes j k
          → (x : Numbered M J) → Memᴰ x xs → x.at ≡ j → Visits k ys
      visits_of none c x r e = absurd (Memᴰ.not-nil r)
      visits_of (more {xs} {ys} {x = z} {y} m f) {j} {k} c x r e =
          elim (Memᴰ.append_cases xs r) [
            | inl a ↦ let (w, n, q) = visits_of m c x a e in (w, Memᴰ.append_left (y ∷ []) n, q)
            | inr b ↦
                let q : z.at ≡ j = ap (λ (w : Numbered M J). w.at) (sym (Memᴰ.eq_of_singleton b)) ∙ e in
                (y, Memᴰ.append_right ys (Memᴰ.head refl), one-k j k y.at c (subst (λ (i : J). Codes i y.at) q f.codes))
          ]

      visits_in : {xs : List (Numbered M J)} {ys : List (Item L K)} → Matches xs ys → {j : J} {k : K} → Codes j k
          → (y : Item L K) → Memᴰ y ys → k ≡ y.at → (x : Numbered M J) × Memᴰ x xs × (x.at ≡ j)
      visits_in none c y r e = absurd (Memᴰ.not-nil r)
      visits_in (more {xs} {ys} {x} {y = z} m f) {j} {k} c y r e =
          elim (Memᴰ.append_cases ys r) [
            | inl a ↦ let (w, n, q) = visits_in m c y a e in (w, Memᴰ.append_left (x ∷ []) n, q)
            | inr b ↦
                let q : z.at ≡ k = ap (λ (w : Item L K). w.at) (sym (Memᴰ.eq_of_singleton b)) ∙ sym e in
                (x, Memᴰ.append_right xs (Memᴰ.head refl), one-j x.at j k (subst (Codes x.at) q f.codes) c)
          ]

      seen_same : {xs : List (Numbered M J)} {ys : List (Item L K)} → Matches xs ys → {j : J} {k : K} → Codes j k
          → seen same' j xs ≡ seen_in same edges ys k
      seen_same {xs} {ys} m {j} {k} c =
          same_truth (seen same' j xs) (seen_in same edges ys k)
          (λ h.
          let (x, r, e) = any_of (λ x. same' x.at j) xs h in
          let (y, n, q) = visits_of m c x r (sound' x.at j e) in
          any_in (λ y. same k y.at) n (subst (λ (a : K). T (same k a)) q (reflexive k)))
          (λ h.
          let (y, r, e) = any_of (λ y. same k y.at) ys h in
          let (x, n, q) = visits_in m c y r (sound k y.at e) in
          any_in (λ x. same' x.at j) n (subst⁻¹ (λ (a : J). T (same' a j)) q (reflexive' j)))

      last-first : (ys : List (Item L K)) (y : Item L K) (fs : List (Item L K))
          → (ys ++ (y ∷ [])) ++ fresh same edges (ys ++ (y ∷ [])) fs ≡ ys ++ (y ∷ fresh same edges (y ∷ ys) fs)
      last-first ys y fs =
          append_assoc ys (y ∷ []) (fresh same edges (ys ++ (y ∷ [])) fs)
          ∙ ap (λ (l : List (Item L K)). ys ++ (y ∷ l))
          (fresh-seen same edges (ys ++ (y ∷ [])) (y ∷ ys) fs
          (λ z m. elim (Memᴰ.append_cases ys m) [ inl a ↦ Memᴰ.tail a | inr b ↦ Memᴰ.head (Memᴰ.eq_of_singleton b) ])
          (λ z m. elim (Memᴰ.cases_cons m) [ inl e ↦ Memᴰ.append_right ys (Memᴰ.head e) | inr a ↦ Memᴰ.append_left (y ∷ []) a ]))

      -- what is added on the one side is what is new on the other
      pub adds_matches : {all s fs : List (Item L K)} {es : List (Numbered M J)} → Thins all s es fs
          → {xs : List (Numbered M J)} {ys : List (Item L K)}
          → Matches xs ys → ((x : Numbered M J) (y : Item L K) → Follows all x y → Follows ys x y) → ((k : K) → Visits k s → Visits k ys)
          → Matches (adds same' xs es) (ys ++ fresh same edges ys fs)
      adds_matches none {xs} {ys} m grow in_all = subst⁻¹ (Matches xs) (append-nil ys) m
      adds_matches (both {x} {y} {xs = es} {ys = fs} f r) {xs} {ys} m grow in_all =
          let e = seen_same m f.codes in
          by_test (seen_in same edges ys y.at)
          (λ b.
          seen same' x.at xs ≡ b
          → Matches (adds same' (cond (seen same' x.at xs) xs (xs ++ (x ∷ []))) es)
          (ys ++ cond b (fresh same edges ys fs) (y ∷ fresh same edges (y ∷ ys) fs)))
          (λ t q.
          subst⁻¹ (λ (b : Bool). Matches (adds same' (cond b xs (xs ++ (x ∷ []))) es) (ys ++ fresh same edges ys fs)) q
          (adds_matches r m grow
          (λ k v. elim (visits_cons v)
          [ inl d ↦ subst⁻¹ (λ (a : K). Visits a ys) d (seen_visits same edges sound ys y.at t) | inr u ↦ in_all k u ])))
          (λ n q.
          subst⁻¹ (λ (b : Bool). Matches (adds same' (cond b xs (xs ++ (x ∷ []))) es) (ys ++ (y ∷ fresh same edges (y ∷ ys) fs))) q
          (subst (Matches (adds same' (xs ++ (x ∷ [])) es)) (last-first ys y fs)
          (adds_matches r (more m (grow x y f)) (λ z w g. follows-more ys (y ∷ []) z w (grow z w g))
          (λ k v.
          elim (visits_cons v) [
            | inl d ↦ (y, Memᴰ.append_right ys (Memᴰ.head refl), d)
            | inr u ↦ let (z, i, j) = in_all k u in (z, Memᴰ.append_left (y ∷ []) i, j)
          ]))))
          e
      adds_matches (skip {y} {xs = es} {ys = fs} v r) {xs} {ys} m grow in_all =
          let (z, i, j) = in_all y.at v in
          let t : T (seen_in same edges ys y.at) =
          any_in (λ w. same y.at w.at) i (subst (λ (a : K). T (same y.at a)) j (reflexive y.at)) in
          subst⁻¹ (λ (b : Bool). Matches (adds same' xs es) (ys ++ cond b (fresh same edges ys fs) (y ∷ fresh same edges (y ∷ ys) fs)))
          (of_T (seen_in same edges ys y.at) t)
          (adds_matches r m grow in_all)

      module _ (onward' : ℕ → Numbered M J → List (Numbered M J))
          (expands : (all : List (Item L K)) (p : ℕ) (x : Numbered M J) (y : Item L K) → At all p y → Codes x.at y.at
          → Thins all [] (onward' p x) (onwards same edges y))
        where
          settled : (fuel' : ℕ) (done : List (Item L K)) (xs : List (Numbered M J)) → Matches xs (done ++ [])
              → spread same' onward' fuel' (length done) xs ≡ xs
          settled fuel' done xs m =
              spread-done same' onward' fuel' (length done) xs (omega (arith, matches_length m, length-append done []))

          -- the searches from a state of the one and of the other, each with fuel enough
          walk_matches : (fuel fuel' : ℕ) (done queue : List (Item L K)) (xs : List (Numbered M J)) → Matches xs (done ++ queue)
              → length (walk same edges fuel done queue) ≤ fuel + length done → length (walk same edges fuel done queue) ≤ fuel' +
              length done
              → Matches (spread same' onward' fuel' (length done) xs) (walk same edges fuel done queue)
          walk_matches zero fuel' done (y ∷ queue) xs m h k = absurd (omega (arith, length-append done (y ∷ queue)))
          walk_matches zero fuel' done [] xs m h k =
              subst⁻¹ (λ (l : List (Numbered M J)). Matches l (done ++ [])) (settled fuel' done xs m) m
          walk_matches (suc fuel) fuel' done [] xs m h k =
              subst⁻¹ (λ (l : List (Numbered M J)). Matches l done) (settled fuel' done xs m) (subst (Matches xs) (append-nil done) m)
          walk_matches (suc fuel) zero done (y ∷ queue) xs m h k =
              absurd (omega (arith, walk-length same edges (suc fuel) done (y ∷ queue)))
          walk_matches (suc fuel) (suc fuel') done (y ∷ queue) xs m h k =
              let all = done ++ (y ∷ queue) in
              let new = new_items same edges y done queue in
              let here = at_next done y queue in
              let (x, a, f, l) = matches_at m here in
              let longer = length-append done (y ∷ []) in
              let more = adds same' xs (onward' (length done) x) in
              let both : Matches more (all ++ new) =
              adds_matches (expands all (length done) x y here f.codes) m (λ z w g. g) (λ j v. absurd (Memᴰ.not-nil v.1)) in
              subst⁻¹ (λ (l : List (Numbered M J)). Matches l (walk same edges fuel (done ++ (y ∷ [])) (queue ++ new)))
              (spread-step same' onward' fuel' (length done) xs a)
              (subst (λ (n : ℕ). Matches (spread same' onward' fuel' n more) (walk same edges fuel (done ++ (y ∷ [])) (queue ++ new)))
              {x = length (done ++ (y ∷ []))} {y = suc (length done)} (omega arith)
              (walk_matches fuel fuel' (done ++ (y ∷ [])) (queue ++ new) more
              (subst⁻¹ (Matches more) (regroup same edges y done queue new) both) (omega arith) (omega arith)))

          -- from candidates for the starts, one for one
          pub search_matches : (fuel fuel' : ℕ) (starts : List (Item L K)) (es : List (Numbered M J)) → Thins [] [] es starts
              → length (search_from same edges fuel starts) ≤ fuel → length (search_from same edges fuel starts) ≤ fuel'
              → Matches (spread same' onward' fuel' 0 (adds same' [] es)) (search_from same edges fuel starts)
          search_matches fuel fuel' starts es r h k =
              walk_matches fuel fuel' [] (fresh same edges [] starts) (adds same' [] es)
              (adds_matches r none (λ z w g. g) (λ j v. v)) (omega arith) (omega arith)

-- candidates that are paired one for one
pub pairs_thins : {L K M J : Type 0} {letter : L → M} {own : Numbered M J → List M} {Codes : J → K → Type 0} {all : List (Item L K)}
    {xs : List (Numbered M J)} {ys : List (Item L K)}
    → Pairs (Follows letter own Codes all) xs ys → (s : List (Item L K)) → Thins letter own Codes all s xs ys
pairs_thins Pairs.none s = Thins.none
pairs_thins (Pairs.more {y = y} f p) s = Thins.both f (pairs_thins p (y ∷ s))

-- where a vertex stands for itself, the vertices are the same
pub matches_vertices : {L K M : Type 0} (letter : L → M) (own : Numbered M K → List M) {xs : List (Numbered M K)} {ys : List (Item L K)}
    → Matches letter own (λ j k. j ≡ k) xs ys → map (λ (x : Numbered M K). x.at) xs ≡ map (λ (y : Item L K). y.at) ys
matches_vertices letter own none = refl
matches_vertices {L} {K} {M} letter own (more {xs} {ys} {x} {y} m f) =
    map-append (λ (z : Numbered M K). z.at) xs (x ∷ [])
    ∙ (λ i. matches_vertices letter own m i ++ (f.codes i ∷ []))
    ∙ sym (map-append (λ (z : Item L K). z.at) ys (y ∷ []))
