-- The search finds all that can be reached, and in order: for a relation `Ahead` between items that edges keep (`Kept`), each item found is
-- ahead of those found after it, and each vertex is found with an item that is ahead of every other way to it. The invariant: the items
-- stand in order, each is ahead of one edge more from any of the queue, and from each item gone on from, an edge leads to a vertex whose
-- item is ahead of that way, or is that way. With an empty queue the last part says that no edge leads out of what is found, or to a better
-- way. Assumes nothing.
use Rattle.std.proofs.Common.{◌≡◌, refl, sym, ap, subst, ◌∙◌, ◌⊎◌, inl, inr, Bool, cond, List, [], ◌∷◌, ◌++◌, append-nil, ℕ, ◌≤◌, arith}
use Rattle.std.proofs.Common.{T, length}
use Rattle.std.proofs.Math.Path.{subst⁻¹}
use mathlib.Core.List.{Memᴰ}
use Rattle.base.specs.Search.{Edge, Item, onward, seen_in, fresh, search_from}
use Rattle.base.proofs.BoolLaws.{by_test}
use Rattle.base.proofs.SearchLaws.{Visits, visits_cons, onwards, new_items, regroup, ends, Ended, walk-keeps, fresh-given}
use Rattle.base.proofs.SearchLaws.{seen_visits, new_onward, ReachableBy}
use Rattle.base.proofs.SortedLaws.{Sorted, sorted_append, sorted_behind}

module _ {L K : Type 0} (same : K → K → Bool) (edges : K → List (Edge L K)) (Ahead : Item L K → Item L K → Type 0) where
  abbrev on : Item L K → Edge L K → Item L K
  on = onward same edges

  -- Edges keep the order: one more is behind, an item ahead stays ahead whatever edges are added, and edges of one vertex are in order.
  pub record Kept : Type 0 where
    pub trans : (x y z : Item L K) → Ahead x y → Ahead y z → Ahead x z
    pub grows : (x : Item L K) (e : Edge L K) → Memᴰ e (edges x.at) → Ahead x (on x e)
    pub keeps : (x y : Item L K) (e f : Edge L K) → Memᴰ e (edges x.at) → Memᴰ f (edges y.at) → Ahead x y
        → Ahead (on x e) (on y f)
    pub rises : (x : Item L K) → Sorted Ahead (onwards same edges x)

  -- the same, or ahead
  abbrev pub Level : Item L K → Item L K → Type 0
  Level x y = (x ≡ y) ⊎ Ahead x y

  -- some item of the list is at x's vertex, and is x or ahead of it
  abbrev pub Led : List (Item L K) → Item L K → Type 0
  Led xs x = (y : Item L K) × Memᴰ y xs × (x.at ≡ y.at) × Level y x

  led_left : (xs ys : List (Item L K)) (x : Item L K) → Led xs x → Led (xs ++ ys) x
  led_left xs ys x (y, m, e, h) = (y, mathlib.Core.List.Memᴰ.append_left ys m, e, h)

  led_right : (xs ys : List (Item L K)) (x : Item L K) → Led ys x → Led (xs ++ ys) x
  led_right xs ys x (y, m, e, h) = (y, mathlib.Core.List.Memᴰ.append_right xs m, e, h)

  -- each edge from one of the first leads to a vertex of the second, whose item is that way or ahead of it
  abbrev Near : List (Item L K) → List (Item L K) → Type 0
  Near done all = (x : Item L K) → Memᴰ x done → (e : Edge L K) → Memᴰ e (edges x.at) → Led all (on x e)

  -- each is ahead of one edge more from any of the queue
  abbrev pub Tight : List (Item L K) → List (Item L K) → Type 0
  Tight queue all = (y z : Item L K) → Memᴰ y queue → Memᴰ z all → (e : Edge L K) → Memᴰ e (edges y.at) → Ahead z (on y e)

  record Ordered (done all queue : List (Item L K)) : Type 0 where
    sorted : Sorted Ahead all
    tight : Tight queue all
    near : Near done all

  module _ (sound : (a b : K) → T (same a b) → a ≡ b) (kept : Kept) where
    level_trans : (x y z : Item L K) → Level x y → Level y z → Level x z
    level_trans x y z (inl e) k = subst⁻¹ (λ (i : Item L K). Level i z) e k
    level_trans x y z (inr h) (inl e) = inr (subst (Ahead x) e h)
    level_trans x y z (inr h) (inr k) = inr (kept.trans x y z h k)

    -- the same edge from the same vertex
    level_on : (x y : Item L K) (e : Edge L K) → Memᴰ e (edges x.at) → Memᴰ e (edges y.at) → Level x y
        → Level (on x e) (on y e)
    level_on x y e m n (inl q) = inl (ap (λ (i : Item L K). on i e) q)
    level_on x y e m n (inr h) = inr (kept.keeps x y e e m n h)

    fresh_sorted : (s ys : List (Item L K)) → Sorted Ahead ys → Sorted Ahead (fresh same edges s ys)
    fresh_sorted s [] o = Sorted.none
    fresh_sorted s (y ∷ ys) (Sorted.more f o) =
        by_test (seen_in same edges s y.at)
        (λ b. Sorted Ahead (cond b (fresh same edges s ys) (y ∷ fresh same edges (y ∷ s) ys)))
        (λ t. fresh_sorted s ys o)
        (λ n. Sorted.more {x = y} {xs = fresh same edges (y ∷ s) ys} (λ z m. f z (fresh-given same edges (y ∷ s) ys m))
        (fresh_sorted (y ∷ s) ys o))

    led_later : (y : Item L K) (ys : List (Item L K)) (x : Item L K) → Led ys x → Led (y ∷ ys) x
    led_later y ys x (z, m, e, h) = (z, mathlib.Core.List.Memᴰ.tail m, e, h)

    -- of the items at a vertex that is not yet seen the first is taken, which is ahead of the others
    fresh_led : (s ys : List (Item L K)) → Sorted Ahead ys → (x : Item L K) → Memᴰ x ys
        → Visits x.at s ⊎ Led (fresh same edges s ys) x
    fresh_led s [] o x m = absurd (mathlib.Core.List.Memᴰ.not-nil m)
    fresh_led s (y ∷ ys) (Sorted.more f o) x m =
        by_test (seen_in same edges s y.at)
        (λ b. Visits x.at s ⊎ Led (cond b (fresh same edges s ys) (y ∷ fresh same edges (y ∷ s) ys)) x)
        (λ t.
        elim (mathlib.Core.List.Memᴰ.cases_cons m) [
          | inl e ↦ inl (subst⁻¹ (λ (i : Item L K). Visits i.at s) e (seen_visits same edges sound s y.at t))
          | inr r ↦ fresh_led s ys o x r
        ])
        (λ n.
        elim (mathlib.Core.List.Memᴰ.cases_cons m) [
          | inl e ↦ inr (y, mathlib.Core.List.Memᴰ.head refl, ap (λ (i : Item L K). i.at) e, inl (sym e))
          | inr r ↦
              elim (fresh_led (y ∷ s) ys o x r) [
                | inl v ↦ elim (visits_cons v) [ inl e ↦ inr (y, mathlib.Core.List.Memᴰ.head refl, e, inr (f x r)) | inr u ↦ inl u ]
                | inr w ↦ inr (led_later y (fresh same edges (y ∷ s) ys) x w)
              ]
        ])

    -- one turn, from item x
    module _ (x : Item L K) (done queue : List (Item L K)) (o : Ordered done (done ++ (x ∷ queue)) (x ∷ queue)) where
      abbrev all : List (Item L K)
      all = done ++ (x ∷ queue)

      abbrev new : List (Item L K)
      new = new_items same edges x done queue

      -- what is found so far is ahead of the new items, and these are ahead of one edge more from what x is ahead of
      ahead_new : (y z : Item L K) → Memᴰ y all → Memᴰ z new → Ahead y z
      ahead_new y z p q =
          let (e, m, i) = new_onward same edges x done queue q in
          subst (Ahead y) i (o.tight x y (mathlib.Core.List.Memᴰ.head refl) p e m)

      new_ahead : (y z : Item L K) → Ahead x y → Memᴰ z new → (f : Edge L K) → Memᴰ f (edges y.at) → Ahead z (on y f)
      new_ahead y z h q f n =
          let (e, m, i) = new_onward same edges x done queue q in
          subst (λ (z : Item L K). Ahead z (on y f)) i (kept.keeps x y e f m n h)

      x_ahead_new : (y : Item L K) → Memᴰ y new → Ahead x y
      x_ahead_new y q = ahead_new x y (mathlib.Core.List.Memᴰ.append_right done (mathlib.Core.List.Memᴰ.head refl)) q

      turn_sorted : Sorted Ahead (all ++ new)
      turn_sorted =
          sorted_append Ahead o.sorted (fresh_sorted all (onwards same edges x) (kept.rises x)) ahead_new

      turn_tight : Tight (queue ++ new) (all ++ new)
      turn_tight y z p q f n =
          elim (mathlib.Core.List.Memᴰ.append_cases queue p) [
            | inl a ↦
                elim (mathlib.Core.List.Memᴰ.append_cases all q) [
                  | inl b ↦ o.tight y z (mathlib.Core.List.Memᴰ.tail a) b f n
                  | inr b ↦ new_ahead y z (sorted_behind Ahead done x queue o.sorted y a) b f n
                ]
            | inr a ↦
                elim (mathlib.Core.List.Memᴰ.append_cases all q) [
                  | inl b ↦ kept.trans z y (on y f) (ahead_new z y b a) (kept.grows y f n)
                  | inr b ↦ new_ahead y z (x_ahead_new y a) b f n
                ]
          ]

      -- where an edge leads from x
      edge_led : (e : Edge L K) → Memᴰ e (edges x.at) → Led (all ++ new) (on x e)
      edge_led e m =
          elim (fresh_led all (onwards same edges x) (kept.rises x) (on x e) (mathlib.Core.List.Memᴰ.map on-x m)) [
            | inl v ↦ led_left all new (on x e) (v.0, v.1, v.2, inr (o.tight x v.0 (mathlib.Core.List.Memᴰ.head refl) v.1 e m))
            | inr w ↦ led_right all new (on x e) w
          ]
        where
          on-x : Edge L K → Item L K
          on-x = onward same edges x

      turn_near : Near (done ++ (x ∷ [])) (all ++ new)
      turn_near y p e m =
          elim (mathlib.Core.List.Memᴰ.append_cases done p) [
            | inl a ↦ led_left all new (on y e) (o.near y a e m)
            | inr b ↦
                let q = mathlib.Core.List.Memᴰ.eq_of_singleton b in
                subst⁻¹ (λ (i : Item L K). Led (all ++ new) (on i e)) q
                (edge_led e (subst (λ (i : Item L K). Memᴰ e (edges i.at)) q m))
          ]

      turn_ordered : Ordered (done ++ (x ∷ [])) ((done ++ (x ∷ [])) ++ (queue ++ new)) (queue ++ new)
      turn_ordered =
          subst⁻¹ (λ (l : List (Item L K)). Ordered (done ++ (x ∷ [])) l (queue ++ new)) (regroup same edges x done queue new)
          (record { sorted = turn_sorted; tight = turn_tight; near = turn_near })

    module _ (starts : List (Item L K)) (rising : Sorted Ahead starts) (close : Tight starts starts) where
      abbrev firsts : List (Item L K)
      firsts = fresh same edges [] starts

      abbrev State : List (Item L K) → List (Item L K) → Type 0
      State done queue = Ordered done (done ++ queue) queue

      ended : (fuel : ℕ) → Ended same edges State fuel [] firsts
      ended fuel =
          ends same edges State turn_ordered fuel [] firsts
          (record {
            sorted = fresh_sorted [] starts rising;
            tight = λ y z p q. close y z (fresh-given same edges [] starts p) (fresh-given same edges [] starts q);
            near = λ z m. absurd (mathlib.Core.List.Memᴰ.not-nil m);
          })

      -- Theorem: what the search finds stands in order,
      pub search_sorted : (fuel : ℕ) → Sorted Ahead (search_from same edges fuel starts)
      search_sorted fuel = let r = ended fuel in subst⁻¹ (Sorted Ahead) r.found r.holds.sorted

      search-closed : (fuel : ℕ) → length (search_from same edges fuel starts) ≤ fuel
          → Near (search_from same edges fuel starts) (search_from same edges fuel starts)
      search-closed fuel h =
          let r = ended fuel in
          let all : search_from same edges fuel starts ≡ r.over =
          r.found ∙ ap (λ (l : List (Item L K)). r.over ++ l) (r.whole (omega arith)) ∙ append-nil r.over in
          subst⁻¹ (λ (l : List (Item L K)). Near l (search_from same edges fuel starts)) all
          (subst⁻¹ (Near r.over) r.found r.holds.near)

      -- and, where what it finds is no more than its fuel, it finds each vertex that can be reached, by the first of all ways to it.
      pub search_first_way : (fuel : ℕ) → length (search_from same edges fuel starts) ≤ fuel
          → {x : Item L K} → ReachableBy same edges starts x → Led (search_from same edges fuel starts) x
      search_first_way fuel h (ReachableBy.start {x} m) =
          elim (fresh_led [] starts rising x m) [
            | inl a ↦ absurd (mathlib.Core.List.Memᴰ.not-nil a.1)
            | inr b ↦
                walk-keeps same edges (λ l. Led l x)
                (λ z done queue w. led_left (done ++ (z ∷ queue)) (new_items same edges z done queue) x w)
                fuel [] firsts b
          ]
      search_first_way fuel h (ReachableBy.go {x} {e} f m) =
          let (y, p, q, l) = search_first_way fuel h f in
          let n : Memᴰ e (edges y.at) = subst (λ (a : K). Memᴰ e (edges a)) q m in
          let (z, r, a, b) = search-closed fuel h y p e n in
          (z, r, a, level_trans z (on y e) (on x e) b (level_on y x e n m l))

module _ {L K : Type 0} (same : K → K → Bool) (edges : K → List (Edge L K)) where
  -- a vertex that can be reached from those of the given items
  pub data Reach (starts : List (Item L K)) : K → Type 0 where
    start : {k : K} → Visits k starts → Reach starts k
    go : {k : K} {e : Edge L K} → Reach starts k → Memᴰ e (edges k) → Reach starts e.to

  -- some way leads there
  reach_by : {starts : List (Item L K)} {k : K} → Reach starts k → (x : Item L K) × ReachableBy same edges starts x × (k ≡ x.at)
  reach_by (start (x, m, e)) = (x, ReachableBy.start m, e)
  reach_by (go {e} r m) =
      let (x, a, q) = reach_by r in
      (onward same edges x e, ReachableBy.go a (subst (λ (k : K). Memᴰ e (edges k)) q m), refl)

  -- the order that asks for nothing
  abbrev Any : Item L K → Item L K → Type 0
  Any x y = Unit {0}

  any_sorted : (xs : List (Item L K)) → Sorted Any xs
  any_sorted [] = Sorted.none
  any_sorted (x ∷ xs) = Sorted.more {x = x} {xs = xs} (λ y m. tt) (any_sorted xs)

  -- where what it finds is no more than its fuel, the search finds all that can be reached
  pub search-all : ((a b : K) → T (same a b) → a ≡ b) → (fuel : ℕ) (starts : List (Item L K))
      → length (search_from same edges fuel starts) ≤ fuel
      → {k : K} → Reach starts k → Visits k (search_from same edges fuel starts)
  search-all sound fuel starts h r =
      let (x, a, q) = reach_by r in
      let kept : Kept same edges Any = record {
        trans = λ x y z p q. tt;
        grows = λ x e m. tt;
        keeps = λ x y e f m n p. tt;
        rises = λ x. any_sorted (onwards same edges x);
      } in
      let (y, m, e, l) = search_first_way same edges Any sound kept starts (any_sorted starts) (λ y z p q e m. tt) fuel h a in
      (y, m, q ∙ e)
