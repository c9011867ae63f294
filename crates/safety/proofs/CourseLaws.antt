-- From numbers to the verdict. A node with a shortest closed walk, and the first number that has one so short: its stem with the first of
-- its closed runs as short is the first of all (`cycle-foremost`), since nodes stand in the order of their stems; so both have room in the
-- letters of N nodes (`course-fits`), and are what the definition chooses (`chosen_is`). What it chooses is the verdict once the nodes have
-- room (`concluded-is`), and else it is 14 (`many_is`). Assumes nothing.
use mathlib.Core.Path.{◌≡◌, refl, sym, ap, subst, subst⁻¹, ◌∙◌}
use mathlib.Core.Logic.{inl, inr}
use mathlib.Core.List.{List, [], ◌∷◌, map}
use Rattle.std.specs.Prelude.{Option, None, Some}
use Prim.Native.Nat.{ℕ, ◌+◌, ◌≤◌, ◌<◌}
use native.Mathlib.Omega.{arith}
use native.Mathlib.Decide.{dec_lt}
use lib.ListN.{length, get_or}
use borrow.Author.Tests.{le-leb, lt-leb}
use Rattle.base.specs.Order.{Before, NoLater}
use Rattle.base.specs.Search.{Item}
use Rattle.base.specs.Lists.{At, here, there}
use Rattle.base.proofs.At.{at_in, at_get, at_map, at_of}
use Rattle.base.proofs.OrderLaws.{before_trans, no_later_trans, no_later_first, no_later_rest, no_later_by}
use Rattle.base.proofs.SortedLaws.{Sorted}
use Rattle.distances.specs.Walks as numbers
use Rattle.formula.specs.Table.{Table}
use Rattle.tableau.specs.Saturation.{Subset}
use Rattle.tableau.specs.Transition.{Transition, letter}
use Rattle.tableau.specs.Nodes.{root, nodes}
use Rattle.tableau.specs.Run.{Along}
use Rattle.tableau.specs.Foremost.{choice_words, Foremost, standing}
use Rattle.tableau.specs.Origins.{way_letters}
use Rattle.tableau.specs.Inner.{table_of}
use Rattle.tableau.proofs.NodeLaws.{by_way, Nearer, nodes_sorted, stem, stem_of, stem-leads, stem-first}
use Rattle.tableau.proofs.ForemostLaws.{StandsFirst, foremost_of, one-foremost, standing_nearer, standing_by_stem, standing_by_cycle}
use Rattle.theory.proofs.Walks.{along_walk}
use Rattle.construction.specs.Construction.{node_count}
use Rattle.safety.specs.Safety.{Verdict, cycle_of, chosen, conclude, decide}
use Rattle.safety.specs.Closed.{ClosedRun}
use Rattle.safety.specs.Inner.{node, CycleThere, FirstClosed}
use Rattle.construction.specs.declared.Question.TheVariants.{Nodes}
use Rattle.safety.proofs.FirstCycle.{cycle-first, cycle-none, found_none, found-foremost}
use Rattle.safety.proofs.ShortCourse.{walk_along, foremost-short}
use Rattle.safety.proofs.NumberWalks.{number-reachable, reachable-number, walk_of, walk_in}

-- of two elements of an ordered list the one with the smaller number is ahead
sorted_at : {A : Type 0} (Ahead : A → A → Type 0) {xs : List A} → Sorted Ahead xs → {i j : ℕ} {x y : A} → At xs i x → At xs j y → i < j
    → Ahead x y
sorted_at Ahead (Sorted.more f s) here here h = absurd (omega arith)
sorted_at Ahead (Sorted.more f s) {y = y} here (there b) h = f y (at_in b)
sorted_at Ahead (Sorted.more f s) (there a) here h = absurd (omega arith)
sorted_at Ahead (Sorted.more f s) (there a) (there b) h = sorted_at Ahead s a b (omega arith)
sorted_at {A = A} Ahead Rattle.base.proofs.SortedLaws.none {i = i} {j = j} {y = y} x10 _ h = elim x10 [ ]

-- before what does not come later than another is before that
before_no_later : (xs ys zs : List ℕ) → Before xs ys → NoLater ys zs → Before xs zs
before_no_later xs ys zs b (inl e) = subst (Before xs) e b
before_no_later xs ys zs b (inr c) = before_trans xs ys zs b c

module _ (t : Table) where
  abbrev item : ℕ → Item Transition Subset
  item i = get_or (nodes t) i (record { way = []; at = [] })

  item_at : (i : ℕ) → i < length (nodes t) → At (nodes t) i (item i)
  item_at i h = at_of (nodes t) i (record { way = []; at = [] }) h

  -- the stem to node i is the way that the search found
  node-way : (i : ℕ) → i < length (nodes t) → stem t (node t i) ≡ (item i).way
  node-way i h =
      ap (stem t) (at_get (at_map (λ (x : Item Transition Subset). x.at) (item_at i h)) []) ∙ stem_of t (at_in (item_at i h))

  pub stem-letters_are : (i : ℕ) → i < length (nodes t) → way_letters t i ≡ map letter (stem t (node t i))
  unfolding nodes
  stem-letters_are i h = ap (map letter) (sym (node-way i h))

  -- what the order of stems compares
  abbrev numbers_of : List Transition → List ℕ
  numbers_of rs = length rs ∷ choice_words t rs

  -- the stem to the node with the smaller number comes before
  stems_rise : (i j : ℕ) → j < length (nodes t) → i < j → Before (numbers_of (stem t (node t i))) (numbers_of (stem t (node t j)))
  stems_rise i j h l =
      subst⁻¹ (λ (rs : List Transition). Before (numbers_of rs) (numbers_of (stem t (node t j)))) (node-way i (omega arith))
      (subst⁻¹ (λ (rs : List Transition). Before (by_way t (item i)) (numbers_of rs)) (node-way j h)
      (sorted_at (Nearer t) (nodes_sorted t) (item_at i (omega arith)) (item_at j h) l))

  -- what the definition chooses is the first of all
  pub chosen_is : {rs ss : List Transition} → Foremost t (ClosedRun t) rs ss
      → (x : Item Transition Subset) × (chosen t ≡ Some x) × (stem t x.at ≡ rs) × (x.way ≡ ss)
  unfolding chosen
  chosen_is {rs} {ss} f = by (chosen t) refl
    where
      by : (o : Option (Item Transition Subset)) → chosen t ≡ o
          → (x : Item Transition Subset) × (o ≡ Some x) × (stem t x.at ≡ rs) × (x.way ≡ ss)
      by None e = absurd (found_none t e _ ss f.is_one.counts)
      by (Some x) e =
          let q = one-foremost t (ClosedRun t) (λ v rs c. c.back) (found-foremost t e) f in
          (x, refl, q.0, q.1)

  -- the verdict by what is chosen, once the nodes have room
  module _ {N : ℕ} (fits : node_count t ≤ N) where
    pub concluded-is : decide N t ≡ conclude (nodes t) (chosen t)
    unfolding decide
    concluded-is = rw (le-leb (length (nodes t)) N fits) refl

  pub many_is : {N : ℕ} → N < node_count t → decide N t ≡ Verdict.refused Nodes
  unfolding decide
  many_is {N} h = rw (lt-leb (length (nodes t)) N h) refl

module _ (rows : List ℕ) (count : ℕ) {known : ℕ} {area slots steps : List ℕ} {v L : ℕ}
    (c : CycleThere rows count known area slots steps v L) where
  abbrev u : Table
  u = table_of rows count

  there-reachable : (j : ℕ) → j < length (nodes u) → Along u (root u) (stem u (node u j)) (node u j)
  there-reachable j h = stem-leads u (number-reachable u j h)

  -- a closed run of a node is a closed walk of its number
  closed-walk : {w : Subset} {ss : List Transition} → ClosedRun u w ss
      → (j : ℕ) × (j < known) × (w ≡ node u j) × numbers.Walk c.relation j (length ss) j
  closed-walk r =
      let (j, h, e) = reachable-number u r.reachable in
      let k : j < known = omega (arith, c.known_is) in
      (j, k, e, walk_in rows count c.known_is c.words_are c.noted (along_walk u r.back) j j k k e e)

  -- Theorem: with the stem to its node the first closed run as short is the first of all.
  pub cycle-foremost : {ss : List Transition} → FirstClosed u (node u v) L ss → Foremost u (ClosedRun u) (stem u (node u v)) ss
  cycle-foremost {ss} f =
      foremost_of u (ClosedRun u)
      (record {
        node = node u v;
        leads = there-reachable v inside;
        counts = record {
          reachable = number-reachable u v inside;
          some_step = omega (arith, f.long, c.shortest.positive);
          back = f.back;
        };
      })
      first
    where
      inside : v < length (nodes u)
      inside = omega (arith, c.known_is, c.shortest.vertex)

      first : StandsFirst u (ClosedRun u) (stem u (node u v)) ss
      first rs zs r =
          let (j, h, e, w) = closed-walk r.counts in
          let few = c.shortest.least j (length zs) r.counts.some_step w in
          let at_j : Along u (root u) rs (node u j) = subst (Along u (root u) rs) e r.leads in
          elim (dec_lt v j) [
            | yes k ↦
                standing_nearer u (stem u (node u v)) ss rs zs (omega (arith, f.long))
                (before_no_later (numbers_of u (stem u (node u v))) (numbers_of u (stem u (node u j))) (numbers_of u rs)
                (stems_rise u v j (omega (arith, c.known_is)) k) (stem-first u at_j))
            | no k ↦
                elim (dec_lt j v) [
                  | yes l ↦ inr (inl (omega (arith, f.long, c.shortest.first j (length zs) l r.counts.some_step w)))
                  | no l ↦
                      let same : node u j ≡ node u v = ap (node u) {x = j} {y = v} (omega arith) in
                      no_later_trans (standing u (stem u (node u v)) ss) (standing u (stem u (node u v)) zs) (standing u rs zs)
                      (standing_by_cycle u (stem u (node u v)) ss zs
                      (no_later_by (length ss) (length zs) _ _ (omega (arith, f.long))
                      (λ q. f.foremost zs (subst (λ (x : Subset). Along u x zs x) (e ∙ same) r.counts.back) (q ∙ f.long))))
                      (standing_by_stem u (stem u (node u v)) rs zs (stem-first u (subst (Along u (root u) rs) same at_j)))
                ]
          ]

  -- there is such a run: the first cycle of the node
  first-closed : (ss : List Transition) × FirstClosed u (node u v) L ss
  first-closed = by (cycle_of u (node u v)) refl
    where
      by : (o : Option (Item Transition Subset)) → cycle_of u (node u v) ≡ o → (ss : List Transition) × FirstClosed u (node u v) L ss
      by None e =
          let (ss, l, w) = walk_of rows count c.known_is c.words_are c.noted c.shortest.closed in
          absurd (cycle-none u (node u v) e ss (walk_along u w) (omega (arith, c.shortest.positive)))
      by (Some x) e =
          let k = cycle-first u (node u v) e in
          let (ss, l, w) = walk_of rows count c.known_is c.words_are c.noted c.shortest.closed in
          let ahead = k.foremost ss (walk_along u w) (omega (arith, c.shortest.positive)) in
          let most = no_later_first (length x.way) (length ss) _ _ ahead in
          let inside = c.shortest.vertex in
          let closed = walk_in rows count c.known_is c.words_are c.noted (along_walk u k.back) v v inside inside refl refl in
          let long : length x.way ≡ L = omega (arith, l, most, c.shortest.least v (length x.way) k.some_step closed) in (
            x.way,
            record {
              back = k.back;
              long = long;
              foremost = λ rs a q.
                  no_later_rest (length x.way) (length rs) _ _ (k.foremost rs a (omega (arith, c.shortest.positive))) (q ∙ sym long);
            },
          )

  -- Theorem: stem and cycle together have at most K transitions.
  pub course-fits : length (stem u (node u v)) + L ≤ node_count u
  course-fits =
      let (ss, f) = first-closed in
      omega (arith, foremost-short u (cycle-foremost f), f.long)
