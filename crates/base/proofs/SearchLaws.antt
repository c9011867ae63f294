-- What the breadth-first search finds, without fuel: no vertex twice, and only what ways from the starts lead to. Both are invariants of a
-- turn of the search, and `ends` is the one induction over its turns: the search ends in a state that has the invariant, and where it found
-- no more than its fuel, with an empty queue. Assumes nothing.
use Rattle.std.proofs.Common.{◌≡◌, refl, sym, ap, subst, ◌∙◌, ◌⊎◌, inl, inr, Bool, cond, List, [], ◌∷◌, ◌++◌, map, append-nil}
use Rattle.std.proofs.Common.{append_assoc, ℕ, zero, suc, ◌+◌, ◌≤◌, arith, T, length, length-append}
use Rattle.std.proofs.Math.ListN.{length-map}
use Rattle.std.proofs.Math.Path.{subst⁻¹}
use mathlib.Core.List.{Memᴰ}
use mathlib.Core.List.Memᴰ
use Rattle.base.specs.Lists.{tail}
use Rattle.base.specs.Search.{Edge, Item, onward, seen_in, fresh, walk, search_from}
use Rattle.base.proofs.BoolLaws.{by_test}
use Rattle.base.proofs.MemberLaws.{any_of, any_in, without}

module _ {L K : Type 0} where
  -- some item of the list is at k
  abbrev pub Visits : K → List (Item L K) → Type 0
  Visits k xs = (x : Item L K) × Memᴰ x xs × (k ≡ x.at)

  pub visits_later : {k : K} (y : Item L K) {xs : List (Item L K)} → Visits k xs → Visits k (y ∷ xs)
  visits_later y (x, m, e) = (x, Memᴰ.tail m, e)

  pub visits_cons : {k : K} {y : Item L K} {xs : List (Item L K)} → Visits k (y ∷ xs) → (k ≡ y.at) ⊎ Visits k xs
  visits_cons (x, m, e) =
      elim (Memᴰ.cases_cons m) [ inl q ↦ inl (e ∙ ap (λ (z : Item L K). z.at) q) | inr r ↦ inr (x, r, e) ]

  -- no two items are at one vertex
  pub data Distinct : List (Item L K) → Type 0 where
    none : Distinct []
    more : {x : Item L K} {xs : List (Item L K)} → (Visits x.at xs → ⊥) → Distinct xs → Distinct (x ∷ xs)

  distinct_append : {s t : List (Item L K)} → Distinct s → Distinct t → ((k : K) → Visits k s → Visits k t → ⊥) → Distinct (s ++ t)
  distinct_append none d f = d
  distinct_append {t} (more {x} {xs} n c) d f =
      more {x = x} {xs = xs ++ t}
      (λ v.
      elim (Memᴰ.append_cases xs v.1)
      [ inl a ↦ n (v.0, a, v.2) | inr b ↦ f x.at (x, Memᴰ.head refl, refl) (v.0, b, v.2) ])
      (distinct_append c d (λ k a b. f k (visits_later x a) b))

  -- distinct items at members of a list are no more than the list has
  pub pigeons : (xs : List (Item L K)) → Distinct xs → (us : List K) → ((x : Item L K) → Memᴰ x xs → Memᴰ x.at us)
      → length xs ≤ length us
  pigeons [] d us f = omega arith
  pigeons (x ∷ xs) (Distinct.more n d) us f =
      let (ys, q, g) = without (f x (Memᴰ.head refl)) in
      let h : length xs ≤ length ys =
      pigeons xs d ys
      (λ y m. elim (g y.at (f y (Memᴰ.tail m))) [ inl e ↦ absurd (n (y, m, sym e)) | inr r ↦ r ]) in
      omega arith

  -- so they are no more than the items of a list that visits all their vertices,
  pub fewer : (xs ys : List (Item L K)) → Distinct xs → ((k : K) → Visits k xs → Visits k ys) → length xs ≤ length ys
  fewer xs ys d f =
      omega (
        arith,
        pigeons xs d (map (λ (y : Item L K). y.at) ys)
            (λ x m. let (y, r, e) = f x.at (x, m, refl) in Memᴰ.cast e (Memᴰ.map (λ (y : Item L K). y.at) r)),
        length-map ys (λ (y : Item L K). y.at),
      )

  -- and two lists of distinct items at the same vertices have as many: that many vertices there are
  pub same_number : (xs ys : List (Item L K)) → Distinct xs → Distinct ys → ((k : K) → Visits k xs → Visits k ys)
      → ((k : K) → Visits k ys → Visits k xs) → length xs ≡ length ys
  same_number xs ys d c f g = omega (arith, fewer xs ys d f, fewer ys xs c g)

module _ {L K : Type 0} (same : K → K → Bool) (edges : K → List (Edge L K)) where
  -- what a turn of the search puts at the queue's end
  abbrev pub onwards : Item L K → List (Item L K)
  onwards x = map (onward same edges x) (edges x.at)

  abbrev pub new_items : Item L K → List (Item L K) → List (Item L K) → List (Item L K)
  new_items x done queue = fresh same edges (done ++ (x ∷ queue)) (onwards x)

  pub regroup : (x : Item L K) (done queue new : List (Item L K)) → (done ++ (x ∷ [])) ++ (queue ++ new) ≡ (done ++ (x ∷ queue)) ++ new
  regroup x done queue new = simp append_assoc

  empty_of : (done queue : List (Item L K)) → length (done ++ queue) ≤ length done → queue ≡ []
  empty_of done [] h = refl
  empty_of done (x ∷ queue) h = absurd (omega (arith, length-append done (x ∷ queue)))

  -- the last state of a walk
  pub record Ended (P : List (Item L K) → List (Item L K) → Type 0) (fuel : ℕ) (done queue : List (Item L K)) : Type 0 where
    pub over : List (Item L K)
    pub left : List (Item L K)
    pub holds : P over left
    pub found : walk same edges fuel done queue ≡ over ++ left
    pub whole : length (walk same edges fuel done queue) ≤ fuel + length done → left ≡ []

  module _ (P : List (Item L K) → List (Item L K) → Type 0)
      (turn : (x : Item L K) (done queue : List (Item L K)) → P done (x ∷ queue) → P (done ++ (x ∷ [])) (queue ++ new_items x done queue))
    where
      pub ends : (fuel : ℕ) (done queue : List (Item L K)) → P done queue → Ended P fuel done queue
      ends zero done queue p =
          record { over = done; left = queue; holds = p; found = refl; whole = λ h. empty_of done queue (omega arith) }
      ends (suc fuel) done [] p = record { over = done; left = []; holds = p; found = sym (append-nil done); whole = λ h. refl }
      ends (suc fuel) done (x ∷ queue) p =
          let r = ends fuel (done ++ (x ∷ [])) (queue ++ new_items x done queue) (turn x done queue p) in
          record {
            over = r.over;
            left = r.left;
            holds = r.holds;
            found = r.found;
            whole = λ h. r.whole (omega (arith, length-append done (x ∷ [])));
          }

  -- what each turn keeps of all that is found
  module _ (Q : List (Item L K) → Type 0)
      (more : (x : Item L K) (done queue : List (Item L K)) → Q (done ++ (x ∷ queue)) → Q ((done ++ (x ∷ queue)) ++ new_items x done queue))
    where
      pub walk-keeps : (fuel : ℕ) (done queue : List (Item L K)) → Q (done ++ queue) → Q (walk same edges fuel done queue)
      walk-keeps fuel done queue q =
          let r =
          ends (λ d u. Q (d ++ u))
          (λ x d u p. subst⁻¹ Q (regroup x d u (new_items x d u)) (more x d u p))
          fuel done queue q in
          subst⁻¹ Q r.found r.holds

  -- each new item is one of those given
  pub fresh-given : (s ys : List (Item L K)) {x : Item L K} → Memᴰ x (fresh same edges s ys) → Memᴰ x ys
  fresh-given s [] m = m
  fresh-given s (y ∷ ys) {x} m =
      by_test (seen_in same edges s y.at)
      (λ b. Memᴰ x (cond b (fresh same edges s ys) (y ∷ fresh same edges (y ∷ s) ys)) → Memᴰ x (y ∷ ys))
      (λ t r. Memᴰ.tail (fresh-given s ys r))
      (λ n r.
      elim (Memᴰ.cases_cons r) [ inl e ↦ Memᴰ.head e | inr r' ↦ Memᴰ.tail (fresh-given (y ∷ s) ys r') ])
      m

  -- a new item is one edge on from the item that the turn took
  pub new_onward : (x : Item L K) (done queue : List (Item L K)) {y : Item L K} → Memᴰ y (new_items x done queue)
      → (e : Edge L K) × Memᴰ e (edges x.at) × (onward same edges x e ≡ y)
  new_onward x done queue m = Memᴰ.of_map (onward same edges x) (edges x.at) (fresh-given (done ++ (x ∷ queue)) (onwards x) m)

  -- a vertex with a way from a start to it: what can be found
  pub data ReachableBy (starts : List (Item L K)) : Item L K → Type 0 where
    start : {x : Item L K} → Memᴰ x starts → ReachableBy starts x
    go : {x : Item L K} {e : Edge L K} → ReachableBy starts x → Memᴰ e (edges x.at) → ReachableBy starts (onward same edges x e)

  -- the search finds only that
  pub search-found : (fuel : ℕ) (starts : List (Item L K)) {x : Item L K} → Memᴰ x (search_from same edges fuel starts)
      → ReachableBy starts x
  search-found fuel starts {x} m =
      walk-keeps (λ xs. (y : Item L K) → Memᴰ y xs → ReachableBy starts y)
      (λ z done queue f y r.
      elim (Memᴰ.append_cases (done ++ (z ∷ queue)) r) [
        | inl a ↦ f y a
        | inr b ↦
            let (e, h, q) = new_onward z done queue b in
            subst (ReachableBy starts) q (go (f z (Memᴰ.append_right done (Memᴰ.head refl))) h)
      ])
      fuel [] (fresh same edges [] starts) (λ y r. start (fresh-given [] starts r)) x m

  -- the search begins with its first start
  pub search-first : (fuel : ℕ) (x : Item L K) (xs : List (Item L K))
      → search_from same edges fuel (x ∷ xs) ≡ x ∷ tail (search_from same edges fuel (x ∷ xs))
  search-first fuel x xs =
      walk-keeps (λ l. l ≡ x ∷ tail l)
      (λ z done queue q. first-append (done ++ (z ∷ queue)) (new_items z done queue) q)
      fuel [] (fresh same edges [] (x ∷ xs)) refl
    where
      first-append : (s r : List (Item L K)) → s ≡ x ∷ tail s → s ++ r ≡ x ∷ tail (s ++ r)
      first-append s r q = ap (λ (l : List (Item L K)). l ++ r) q ∙ ap (λ (l : List (Item L K)). x ∷ tail (l ++ r)) (sym q)

  pub seen_visits : ((a b : K) → T (same a b) → a ≡ b) → (xs : List (Item L K)) (k : K) → T (seen_in same edges xs k) → Visits k xs
  seen_visits sound xs k h = let (x, m, q) = any_of (λ x. same k x.at) xs h in (x, m, sound k x.at q)

  -- what is found once needs only that a vertex is the same as itself
  module _ (loose : (a : K) → T (same a a)) where
    visits_seen : (xs : List (Item L K)) (k : K) → Visits k xs → T (seen_in same edges xs k)
    visits_seen xs k (x, m, e) = any_in (λ x. same k x.at) m (subst (λ (a : K). T (same k a)) e (loose k))

    -- the new items are not among the seen
    fresh_new : (s ys : List (Item L K)) (k : K) → Visits k s → Visits k (fresh same edges s ys) → ⊥
    fresh_new s [] k v q = Memᴰ.not-nil q.1
    fresh_new s (y ∷ ys) k v q =
        by_test (seen_in same edges s y.at)
        (λ b. Visits k (cond b (fresh same edges s ys) (y ∷ fresh same edges (y ∷ s) ys)) → ⊥)
        (λ t r. fresh_new s ys k v r)
        (λ n r.
        elim (visits_cons r)
        [ inl e ↦ n (visits_seen s y.at (v.0, v.1, sym e ∙ v.2)) | inr r' ↦ fresh_new (y ∷ s) ys k (visits_later y v) r' ])
        q

    fresh_distinct : (s ys : List (Item L K)) → Distinct (fresh same edges s ys)
    fresh_distinct s [] = none
    fresh_distinct s (y ∷ ys) =
        by_test (seen_in same edges s y.at)
        (λ b. Distinct (cond b (fresh same edges s ys) (y ∷ fresh same edges (y ∷ s) ys)))
        (λ t. fresh_distinct s ys)
        (λ n. more (fresh_new (y ∷ s) ys y.at (y, Memᴰ.head refl, refl)) (fresh_distinct (y ∷ s) ys))

    -- the search finds no vertex twice
    pub search_distinct : (fuel : ℕ) (starts : List (Item L K)) → Distinct (search_from same edges fuel starts)
    search_distinct fuel starts =
        walk-keeps Distinct
        (λ x done queue d. distinct_append d (fresh_distinct (done ++ (x ∷ queue)) (onwards x))
        (fresh_new (done ++ (x ∷ queue)) (onwards x)))
        fuel [] (fresh same edges [] starts) (fresh_distinct [] starts)

    -- it finds no more than there are vertices that can be found
    pub search-few : (fuel : ℕ) (starts : List (Item L K)) (us : List K) → ((x : Item L K) → ReachableBy starts x → Memᴰ x.at us)
        → length (search_from same edges fuel starts) ≤ length us
    search-few fuel starts us f =
        pigeons (search_from same edges fuel starts) (search_distinct fuel starts) us (λ x m. f x (search-found fuel starts m))
