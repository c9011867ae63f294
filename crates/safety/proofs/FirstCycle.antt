-- The cycle that is chosen, with the stem to its node, is the first of all runs in the shape of a lasso. From a node v the search begins
-- with the runs of one transition, by rising choice word, and shorter runs come first; so each node that it finds comes with the first of
-- all runs of one transition or more that lead there from v, and v itself with the first of its closed runs (`cycle-first`). Of these the
-- first of the shortest is kept, and the nodes stand in the order of their stems; so no other stands before it (`found-foremost`). If none
-- is kept, no reachable node has a closed run (`found_none`). Assumes nothing.
use mathlib.Core.Path.{◌≡◌, refl, sym, ap, subst, subst⁻¹, ◌∙◌}
use mathlib.Core.Logic.{◌⊎◌, inl, inr}
use mathlib.Core.Bool.{Bool, cond, true, false}
use mathlib.Core.Option.{none, some}
use Rattle.std.specs.Prelude.{Option, None, Some, find}
use mathlib.Core.List.Memᴰ
use mathlib.Core.List.{List, [], ◌∷◌, map, Memᴰ}
use Prim.Native.Nat.{ℕ, ◌≤◌, ◌<◌}
use native.Mathlib.Omega.{arith}
use lib.Dec.{T, leb, leb→le, le→leb}
use lib.ListN.{length, length-append}
use Rattle.base.specs.Order.{NoLater}
use Rattle.base.specs.Search.{Item}
use Rattle.base.proofs.BoolLaws.{by_test}
use Rattle.base.specs.Lists.{first}
use Rattle.base.proofs.FirstLaws.{first-none, Least, first_some}
use Rattle.base.proofs.OrderLaws.{no_later_first, no_later_trans}
use Rattle.base.proofs.SearchLaws.{ReachableBy, search-found}
use Rattle.base.proofs.SearchOrder.{Led}
use Rattle.base.proofs.SortedLaws.{Sorted, sorted_map}
use Rattle.base.proofs.WayOrder.{ways_sorted, ways_first}
use Rattle.formula.specs.Table.{Table}
use Rattle.tableau.specs.Saturation.{Subset, same_subset}
use Rattle.tableau.specs.Transition.{Transition, transitions}
use Rattle.tableau.specs.Nodes.{root, edges, nodes}
use Rattle.tableau.specs.Run.{Along}
use Rattle.tableau.specs.Foremost.{choice_words, Foremost, standing}
use Rattle.tableau.proofs.SaturationLaws.{subset_sound, subset_refl}
use Rattle.tableau.proofs.ChoiceWords.{Rises, transitions-rising}
use Rattle.tableau.proofs.NodeLaws.{fuel, Leads, found_along, found-on, found-few, word, words, by_way, Nearer, adds, edges-rising}
use Rattle.tableau.proofs.NodeLaws.{nodes_along, nodes-all, nodes_sorted, stem, stem_of, stem-first}
use Rattle.tableau.proofs.ForemostLaws.{standing_nearer, standing_by_stem, standing_by_cycle, StandsFirst, foremost_of}
use Rattle.safety.specs.Safety.{start, beyond, cycle_of, shorter, shortest, chosen}
use Rattle.safety.specs.Closed.{ClosedRun}

-- what `find` finds is the first, as the laws of `base` have it
module _ {A : Type 0} (q : A → Bool) where
  first-found : (xs : List A) {x : A} → find q xs ≡ Some x → first q xs ≡ some x
  first-found [] e = cc
  first-found (y ∷ ys) {x} e = by (q y) (first-found ys) e
    where
      by : (b : Bool) → (find q ys ≡ Some x → first q ys ≡ some x) → cond b (Some y) (find q ys) ≡ Some x
          → cond b (some y) (first q ys) ≡ some x
      by true behind e = let i : y ≡ x = cc in ap some i
      by false behind e = behind e

  none-first : (xs : List A) → find q xs ≡ None → first q xs ≡ none
  none-first [] e = refl
  none-first (y ∷ ys) e = by (q y) (none-first ys) e
    where
      by : (b : Bool) → (find q ys ≡ None → first q ys ≡ none) → cond b (Some y) (find q ys) ≡ None
          → cond b (some y) (first q ys) ≡ none
      by true behind e = cc
      by false behind e = behind e

pub none-some : {A : Type 0} {a : A} → None ≡ Some a → ⊥
none-some e = let z : ◌≡◌ {A = ℕ} 0 1 = cc in omega arith

-- The search from one node.
module _ (t : Table) (v : Subset) where
  abbrev starts : List (Item Transition Subset)
  starts = map start (transitions t v)

  start_of : {y : Item Transition Subset} → Memᴰ y starts → (s : Transition) × Memᴰ s (transitions t v) × (start s ≡ y)
  start_of m = Memᴰ.of_map start (transitions t v) m

  starts_lead : Leads t v starts
  starts_lead y m =
      let (s, r, q) = start_of m in
      subst (λ (z : Item Transition Subset). Along t v z.way z.at) q (Along.on Along.stay r)

  start-way : (y : Item Transition Subset) → Memᴰ y starts → length y.way ≡ 1
  start-way y m = let (s, r, q) = start_of m in ap (λ (z : Item Transition Subset). length z.way) (sym q)

  starts_sorted : Sorted (Nearer t) starts
  starts_sorted =
      sorted_map (Rises t) (Nearer t) start (transitions t v) (transitions-rising t v) (λ s r m n l. inr (refl, inl l))

  found_some : {x : Item Transition Subset} → ReachableBy same_subset (edges t) starts x → 0 < length x.way
  found_some {x} (ReachableBy.start m) = omega (arith, start-way x m)
  found_some (ReachableBy.go {x} {e} f m) = omega (arith, length-append x.way (e.label ∷ []))

  -- a run of one transition or more is found
  along_found : {u : Subset} {ss : List Transition} → Along t v ss u → 0 < length ss
      → ReachableBy same_subset (edges t) starts (record { way = ss; at = u })
  along_found Along.stay h = absurd (omega arith)
  along_found (Along.on Along.stay m) h = ReachableBy.start (Memᴰ.map start m)
  along_found (Along.on (Along.on {ss} {s} a n) m) h =
      found-on t (along_found (Along.on a n) (omega (arith, length-append ss (s ∷ [])))) m

  beyond-found : {x : Item Transition Subset} → Memᴰ x (beyond t v) → ReachableBy same_subset (edges t) starts x
  unfolding transitions
  beyond-found m = search-found same_subset (edges t) (fuel t) starts m

  beyond_sorted : Sorted (Nearer t) (beyond t v)
  unfolding transitions
  beyond_sorted =
      ways_sorted same_subset (edges t) (word t) (words t) (adds t) (edges-rising t) subset_sound starts starts_sorted 1 start-way (fuel t)

  beyond_led : {u : Subset} {ss : List Transition} → Along t v ss u → 0 < length ss
      → Led same_subset (edges t) (Nearer t) (beyond t v) (record { way = ss; at = u })
  unfolding transitions
  beyond_led a h =
      ways_first same_subset (edges t) (word t) (words t) (adds t) (edges-rising t) subset_sound starts starts_sorted 1 start-way (fuel t)
      (omega (arith, found-few t v starts starts_lead)) (along_found a h)

  -- at v
  abbrev around : Item Transition Subset → Bool
  around x = same_subset v x.at

  -- An item is at v, with the first of the runs of one transition or more that lead back to v.
  pub record FirstCycle (x : Item Transition Subset) : Type 0 where
    pub at-is : v ≡ x.at
    pub some_step : 0 < length x.way
    pub back : Along t v x.way v
    pub foremost : (ss : List Transition) → Along t v ss v → 0 < length ss → NoLater (by_way t x) (length ss ∷ choice_words t ss)

  -- Theorem: the cycle of v is that,
  pub cycle-first : {x : Item Transition Subset} → cycle_of t v ≡ Some x → FirstCycle x
  unfolding transitions
  cycle-first {x} e =
      let l = first_some around (Nearer t) beyond_sorted (first-found around (beyond t v) e) in
      let q : v ≡ x.at = subset_sound v x.at l.passes in
      let f = beyond-found l.present in
      record {
        at-is = q;
        some_step = found_some f;
        back = subst⁻¹ (Along t v x.way) q (found_along t starts_lead f);
        foremost = λ ss a h. ahead l (beyond_led a h);
      }
    where
      no-later : (y z : Item Transition Subset) → (y ≡ z) ⊎ Nearer t y z → NoLater (by_way t y) (by_way t z)
      no-later y z k = elim k [ inl q ↦ inl (ap (by_way t) q) | inr h ↦ inr h ]

      ahead : Least around (Nearer t) (beyond t v) x → {ss : List Transition}
          → Led same_subset (edges t) (Nearer t) (beyond t v) (record { way = ss; at = v })
          → NoLater (by_way t x) (length ss ∷ choice_words t ss)
      ahead l {ss} (y, m, q, k) =
          no_later_trans (by_way t x) (by_way t y) (length ss ∷ choice_words t ss)
          (no-later x y (l.ahead y m (subst (λ (u : Subset). T (same_subset v u)) q (subset_refl v))))
          (no-later y (record { way = ss; at = v }) k)

  -- and where it has none, no such run leads back to v.
  pub cycle-none : cycle_of t v ≡ None → (ss : List Transition) → Along t v ss v → 0 < length ss → ⊥
  unfolding transitions
  cycle-none e ss a h =
      let (y, m, q, k) = beyond_led a h in
      first-none around (beyond t v) (none-first around (beyond t v) e) m (subst (λ (u : Subset). T (same_subset v u)) q (subset_refl v))

-- Of the cycles of some nodes the first of the shortest.
module _ (t : Table) where
  -- It is the cycle of one of the nodes, and with the way to this node it does not stand behind that of another.
  record Best (ns : List (Item Transition Subset)) (x : Item Transition Subset) : Type 0 where
    node : Item Transition Subset
    present : Memᴰ node ns
    is : cycle_of t node.at ≡ Some x
    stands : (m : Item Transition Subset) → Memᴰ m ns → (y : Item Transition Subset) → cycle_of t m.at ≡ Some y
        → NoLater (standing t node.way x.way) (standing t m.way y.way)

  -- where there is none, no node has a cycle
  shortest-none : (ns : List (Item Transition Subset)) → shortest t ns ≡ None → {m : Item Transition Subset} → Memᴰ m ns
      → cycle_of t m.at ≡ None
  unfolding transitions
  shortest-none [] e m = absurd (Memᴰ.not-nil m)
  shortest-none (n ∷ ns) e {m} i =
      elim (Memᴰ.cases_cons i) [
        | inl q ↦ ap (λ (k : Item Transition Subset). cycle_of t k.at) q ∙ (both-none (cycle_of t n.at) (shortest t ns) e).0
        | inr r ↦ shortest-none ns (both-none (cycle_of t n.at) (shortest t ns) e).1 r
      ]
    where
      both-none : (o p : Option (Item Transition Subset)) → shorter o p ≡ None → (o ≡ None) × (p ≡ None)
      both-none None p e = (refl, e)
      both-none (Some x) None e = absurd (none-some (sym e))
      both-none (Some x) (Some y) e =
          by_test (leb (length x.way) (length y.way))
          (λ b. cond b (Some x) (Some y) ≡ None → (Some x ≡ None) × (Some y ≡ None))
          (λ h q. absurd (none-some (sym q))) (λ h q. absurd (none-some (sym q))) e

  -- one node more in front of nearer ones
  module _ (n : Item Transition Subset) (ns : List (Item Transition Subset))
      (ahead : (m : Item Transition Subset) → Memᴰ m ns → Nearer t n m)
    where
      -- its cycle, where those of the others are no shorter
      best_here : {a : Item Transition Subset} → cycle_of t n.at ≡ Some a
          → ((m : Item Transition Subset) → Memᴰ m ns → (y : Item Transition Subset) → cycle_of t m.at ≡ Some y
          → length a.way ≤ length y.way)
          → Best (n ∷ ns) a
      unfolding transitions
      best_here {a} e f =
          record {
            node = n;
            present = Memᴰ.head refl;
            is = e;
            stands = λ m i y q.
                elim (Memᴰ.cases_cons i) [
                  | inl d ↦ inl (same m y d (sym e ∙ ap (λ (k : Item Transition Subset). cycle_of t k.at) (sym d) ∙ q))
                  | inr r ↦ standing_nearer t n.way a.way m.way y.way (f m r y q) (ahead m r)
                ];
          }
        where
          same : (m y : Item Transition Subset) → m ≡ n → Some a ≡ Some y → standing t n.way a.way ≡ standing t m.way y.way
          same m y d q = let r : a ≡ y = cc in λ i. standing t (sym d i).way (r i).way

      -- the best of the others, where its cycle is shorter than that of the node, if this has one
      best_there : {x : Item Transition Subset} → Best ns x
          → ((y : Item Transition Subset) → cycle_of t n.at ≡ Some y → length x.way < length y.way)
          → Best (n ∷ ns) x
      unfolding transitions
      best_there {x} b f =
          record {
            node = b.node;
            present = Memᴰ.tail b.present;
            is = b.is;
            stands = λ m i y q.
                elim (Memᴰ.cases_cons i) [
                  | inl d ↦ inr (inl (f y (ap (λ (k : Item Transition Subset). cycle_of t k.at) (sym d) ∙ q)))
                  | inr r ↦ b.stands m r y q
                ];
          }

      best_more : (o p : Option (Item Transition Subset)) → cycle_of t n.at ≡ o → shortest t ns ≡ p
          → ((x : Item Transition Subset) → shortest t ns ≡ Some x → Best ns x)
          → {x : Item Transition Subset} → shorter o p ≡ Some x → Best (n ∷ ns) x
      unfolding transitions
      best_more None p e d f {x} q = best_there (f x (d ∙ q)) (λ y r. absurd (none-some (sym e ∙ r)))
      best_more (Some a) None e d f {x} q =
          best_here (e ∙ q) (λ m r y j. absurd (none-some (sym (shortest-none ns d r) ∙ j)))
      best_more (Some a) (Some b) e d f {x} q =
          by_test (leb (length a.way) (length b.way)) (λ c. cond c (Some a) (Some b) ≡ Some x → Best (n ∷ ns) x)
          (λ h r. subst BestWith (the r) (best_here e (λ m i y j. no_longer m i y j (leb→le (length a.way) (length b.way) h))))
          (λ h r. subst BestWith (the r) (best_there (f b d) (λ y j. shorter_than y (sym e ∙ j) (λ l. h (le→leb _ _ l)))))
          q
        where
          BestWith : Item Transition Subset → Type 0
          BestWith x = Best (n ∷ ns) x

          the : {y z : Item Transition Subset} → Some y ≡ Some z → y ≡ z
          the r = cc

          no_longer : (m : Item Transition Subset) → Memᴰ m ns → (y : Item Transition Subset) → cycle_of t m.at ≡ Some y
              → length a.way ≤ length b.way → length a.way ≤ length y.way
          no_longer m i y j l =
              let g = f b d in
              omega (arith, l, no_later_first (length b.way) (length y.way) _ _ (g.stands m i y j))

          shorter_than : (y : Item Transition Subset) → Some a ≡ Some y → (length a.way ≤ length b.way → ⊥)
              → length b.way < length y.way
          shorter_than y j l = omega (arith, ap (λ (z : Item Transition Subset). length z.way) (the j))

  best : (ns : List (Item Transition Subset)) → Sorted (Nearer t) ns → (x : Item Transition Subset) → shortest t ns ≡ Some x → Best ns x
  unfolding transitions
  best [] s x e = absurd (none-some e)
  best (n ∷ ns) (Sorted.more f s) x e = best_more n ns f (cycle_of t n.at) (shortest t ns) refl refl (best ns s) e

  -- Theorem: where no cycle is chosen, no reachable node has a closed run.
  pub found_none : chosen t ≡ None → (v : Subset) (ss : List Transition) → ClosedRun t v ss → ⊥
  unfolding chosen
  found_none e v ss c =
      let (m, i, q) = nodes-all t c.reachable in
      cycle-none t v (ap (cycle_of t) q ∙ shortest-none (nodes t) e i) ss c.back c.some_step

  module _ {x : Item Transition Subset} (found : chosen t ≡ Some x) where
    chosen_best : Best (nodes t) x
    unfolding chosen
    chosen_best = best (nodes t) (nodes_sorted t) x found

    -- its node, and that it is the first of the cycles of this node
    chosen-first : FirstCycle t chosen_best.node.at x
    chosen-first = cycle-first t chosen_best.node.at chosen_best.is

    -- Theorem: what is chosen is a closed run,
    pub found-closed : ClosedRun t x.at x.way
    found-closed =
        subst (λ (v : Subset). ClosedRun t v x.way) chosen-first.at-is
        (record {
          reachable = (chosen_best.node.way, nodes_along t chosen_best.present);
          some_step = chosen-first.some_step;
          back = chosen-first.back;
        })

    -- and no closed run with any stem stands before it. For a closed run of a node v with a stem to v this takes three steps. What is
    -- chosen, with the way to its node, does not stand behind the first cycle of v with the way that `nodes` has to v; nor does this cycle
    -- so stand behind the closed run with the same way; nor does the closed run so stand behind itself with its own stem.
    chosen-stands : StandsFirst t (ClosedRun t) chosen_best.node.way x.way
    chosen-stands rs ss r =
        let (m, i, q) = nodes-all t r.counts.reachable in
        against (cycle_of t m.at) refl i q
      where
        against : {m : Item Transition Subset} (o : Option (Item Transition Subset)) → cycle_of t m.at ≡ o → Memᴰ m (nodes t)
            → r.node ≡ m.at → NoLater (standing t chosen_best.node.way x.way) (standing t rs ss)
        against {m} None e i q =
            absurd (cycle-none t m.at e ss (subst (λ (v : Subset). Along t v ss v) q r.counts.back) r.counts.some_step)
        against {m} (Some y) e i q =
            let k = cycle-first t m.at e in
            no_later_trans (standing t chosen_best.node.way x.way) (standing t m.way y.way) (standing t rs ss)
            (chosen_best.stands m i y e)
            (no_later_trans (standing t m.way y.way) (standing t m.way ss) (standing t rs ss)
            (standing_by_cycle t m.way y.way ss
            (k.foremost ss (subst (λ (v : Subset). Along t v ss v) q r.counts.back) r.counts.some_step))
            (standing_by_stem t m.way rs ss
            (subst (λ (qs : List Transition). NoLater (length qs ∷ choice_words t qs) (length rs ∷ choice_words t rs)) (stem_of t i)
            (stem-first t (subst (Along t (root t) rs) q r.leads)))))

    -- Theorem: and with the stem to its node it is the first of all.
    pub found-foremost : Foremost t (ClosedRun t) (stem t x.at) x.way
    found-foremost =
        subst (λ (rs : List Transition). Foremost t (ClosedRun t) rs x.way)
        (sym (stem_of t chosen_best.present) ∙ ap (stem t) chosen-first.at-is)
        (foremost_of t (ClosedRun t)
        (record {
          node = x.at;
          leads = subst (Along t (root t) chosen_best.node.way) chosen-first.at-is (nodes_along t chosen_best.present);
          counts = found-closed;
        })
        chosen-stands)
