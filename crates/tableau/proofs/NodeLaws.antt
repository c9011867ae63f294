-- The nodes are what MEANING 3.7 says, without search and fuel: `nodes` lists exactly the sets that transitions lead to from the root
-- (`nodes_along`, `nodes-all`), each once (`nodes_distinct`), so that K, its length, is their number (`nodes-count`, `nodes-most`); each
-- comes with the first of all runs to it from the root (`nodes_led`, `stem-first`), which has fewer than K transitions (`nodes-short`); and
-- K is at most 1 + 2^n for n next operators (`nodes-few`, and `nodes_few_next` for those of the formula): every node but the root is a part
-- of their operands, and so is every node that a search from another node finds (`found-few`). That bound is below the search's fuel, so
-- the laws of the search apply. Assumes nothing.
use Rattle.std.proofs.Common.{◌≡◌, refl, sym, ap, subst, ◌∙◌, inl, inr, cond, List, [], ◌∷◌, ◌++◌, map, ℕ, suc, ◌+◌, ◌^◌, ◌≤◌, ◌<◌, arith}
use Rattle.std.proofs.Common.{T, length}
use Rattle.std.proofs.Math.ListN.{length-map}
use Rattle.std.proofs.Math.Path.{subst⁻¹}
use mathlib.Core.List.{map-append, Memᴰ}
use mathlib.Core.List.Memᴰ
use Rattle.base.specs.Lists.{tail}
use Rattle.base.specs.Order.{Before, NoLater}
use Rattle.base.specs.Search.{Edge, Item, onward, search_from}
use Rattle.base.proofs.BoolLaws.{by_test}
use Rattle.base.proofs.MemberLaws.{parts, parts_length, parts_in}
use Rattle.base.proofs.SearchLaws.{Visits, visits_cons, Distinct, ReachableBy, same_number, search-found, search-first, search_distinct}
use Rattle.base.proofs.SearchLaws.{search-few, fewer}
use Rattle.base.proofs.WithinLaws.{search-short}
use Rattle.base.proofs.SortedLaws.{Sorted, sorted_map}
use Rattle.base.proofs.SearchOrder.{Led}
use Rattle.base.proofs.WayOrder.{Rising, ways_sorted, ways_first}
use Rattle.base.proofs.Inside.{inside_length}
use Rattle.formula.specs.Formula.{Formula}
use Rattle.formula.specs.Table.{Operator, Table, table, is_next}
use Rattle.formula.proofs.Limits.{nexts, how_many, table-nexts}
use Rattle.tableau.specs.Saturation.{Subset, same_subset, nothing, add}
use Rattle.tableau.specs.Transition.{choice_word, Transition, transitions}
use Rattle.tableau.specs.Nodes.{root, edges, operands, nodes, stem_to}
use Rattle.tableau.specs.Run.{Along, Reachable}
use Rattle.tableau.specs.Foremost.{choice_words}
use Rattle.tableau.proofs.SaturationLaws.{subset_sound, subset_refl, add-inside}
use Rattle.tableau.proofs.TransitionLaws.{facts, transition_to}
use Rattle.tableau.proofs.ChoiceWords.{Rises, transitions-rising}

pub at-root : (t : Table) → Reachable t (root t)
at-root t = ([], Along.stay)

pub by_transition : {t : Table} {v : Subset} {s : Transition} → Reachable t v → Memᴰ s (transitions t v) → Reachable t s.to
by_transition {s} (ss, a) m = (ss ++ (s ∷ []), Along.on a m)

-- how many transitions an item's way has
abbrev pub way-length : {K : Type 0} → Item Transition K → ℕ
way-length x = length x.way

abbrev pub edge_of : Transition → Edge Transition Subset
edge_of s = record { label = s; to = s.to }

abbrev starts : Table → List (Item Transition Subset)
starts t = record { way = []; at = root t } ∷ []

abbrev pub fuel : Table → ℕ
fuel t = 2 + 2 ^ length (operands t)

-- a node, and the parts of the operands of next
abbrev pub node-sets : Table → Subset → List Subset
node-sets t v = v ∷ map (λ (ms : List ℕ). add ms (nothing t)) (parts (operands t))

-- each of these items is at a node that its way leads to from v
abbrev pub Leads : Table → (v : Subset) → List (Item Transition Subset) → Type 0
Leads t v xs = (y : Item Transition Subset) → Memᴰ y xs → Along t v y.way y.at

module _ (t : Table) where
  -- what is found from runs of a node are runs of this node,
  pub found_along : {v : Subset} {xs : List (Item Transition Subset)} → Leads t v xs → {x : Item Transition Subset}
      → ReachableBy same_subset (edges t) xs x → Along t v x.way x.at
  unfolding transitions
  found_along b {x} (ReachableBy.start m) = b x m
  found_along {v} b (ReachableBy.go {x} {e} f m) =
      let (s, r, q) = Memᴰ.of_map edge_of (transitions t x.at) m in
      subst (λ (d : Edge Transition Subset). Along t v (x.way ++ (d.label ∷ [])) d.to) q (Along.on (found_along b f) r)

  -- and where a run is found, so is one with a transition more
  pub found-on : {xs : List (Item Transition Subset)} {u : Subset} {ss : List Transition} {s : Transition}
      → ReachableBy same_subset (edges t) xs (record { way = ss; at = u }) → Memᴰ s (transitions t u)
      → ReachableBy same_subset (edges t) xs (record { way = ss ++ (s ∷ []); at = s.to })
  unfolding transitions
  found-on {s = s} r m = ReachableBy.go {e = edge_of s} r (Memᴰ.map edge_of m)

  starts_lead : Leads t (root t) (starts t)
  starts_lead y m =
      subst⁻¹ (λ (z : Item Transition Subset). Along t (root t) z.way z.at) (Memᴰ.eq_of_singleton m) Along.stay

  along_found : {v : Subset} {ss : List Transition} → Along t (root t) ss v
      → ReachableBy same_subset (edges t) (starts t) (record { way = ss; at = v })
  along_found Along.stay = ReachableBy.start (Memᴰ.head refl)
  along_found (Along.on a m) = found-on (along_found a) m

  along_set : {v u : Subset} {ss : List Transition} → Along t v ss u → Memᴰ u (node-sets t v)
  along_set Along.stay = Memᴰ.head refl
  along_set (Along.on {u} {s} a m) =
      let (ms, p, e) = transition_to t u s m in
      Memᴰ.tail (Memᴰ.cast e (Memᴰ.map (λ (ms : List ℕ). add ms (nothing t)) (parts_in p)))

  -- a node has a Bool for each subformula
  pub along_length : {v u : Subset} {ss : List Transition} → length v ≡ length t → Along t v ss u → length u ≡ length t
  along_length len Along.stay = len
  along_length len (Along.on {u} {s} a m) = (facts t u (along_length len a) s m).long

  pub root-length : length (root t) ≡ length t
  root-length = sym (inside_length (add-inside (0 ∷ []) (nothing t))) ∙ length-map t (λ (o : Operator). _)

  pub reachable-length : {v : Subset} → Reachable t v → length v ≡ length t
  reachable-length (ss, a) = along_length root-length a

  -- Theorem: each node comes with transitions that lead to it from the root.
  pub nodes_along : {x : Item Transition Subset} → Memᴰ x (nodes t) → Along t (root t) x.way x.at
  unfolding nodes
  nodes_along m = found_along starts_lead (search-found same_subset (edges t) (fuel t) (starts t) m)

  -- Theorem: no node is listed twice.
  pub nodes_distinct : Distinct (nodes t)
  unfolding nodes
  nodes_distinct = search_distinct same_subset (edges t) subset_refl (fuel t) (starts t)

  -- a search from runs of a node finds at most 1 + 2^n nodes
  pub found-few : (v : Subset) (xs : List (Item Transition Subset)) → Leads t v xs
      → length (search_from same_subset (edges t) (fuel t) xs) ≤ 1 + 2 ^ length (operands t)
  unfolding transitions
  found-few v xs b =
      omega (
        arith,
        search-few same_subset (edges t) subset_refl (fuel t) xs (node-sets t v) (λ x f. along_set (found_along b f)),
        length-map (parts (operands t)) (λ (ms : List ℕ). add ms (nothing t)),
        parts_length (operands t),
      )

  -- Theorem: K is at most 1 + 2^n.
  pub nodes-few : length (nodes t) ≤ 1 + 2 ^ length (operands t)
  unfolding nodes
  nodes-few = found-few (root t) (starts t) starts_lead

  start-way : (y : Item Transition Subset) → Memᴰ y (starts t) → way-length y ≡ 0
  start-way y m = ap (λ (z : Item Transition Subset). way-length z) (Memᴰ.eq_of_singleton m)

  -- The nearer node is ahead, and of two as near the one whose way has the choice words that come first.
  abbrev pub word : Transition → ℕ
  word s = choice_word t s.choice

  abbrev pub words : Item Transition Subset → List ℕ
  words n = choice_words t n.way

  abbrev pub by_way : Item Transition Subset → List ℕ
  by_way n = length n.way ∷ words n

  abbrev pub Nearer : Item Transition Subset → Item Transition Subset → Type 0
  Nearer n m = Before (by_way n) (by_way m)

  pub adds : (n : Item Transition Subset) (e : Edge Transition Subset) → Memᴰ e (edges t n.at)
      → words (onward same_subset (edges t) n e) ≡ words n ++ (word e.label ∷ [])
  adds n e m = map-append word n.way (e.label ∷ [])

  pub edges-rising : (v : Subset) → Sorted (Rising same_subset (edges t) word words) (edges t v)
  unfolding transitions
  edges-rising v =
      sorted_map (Rises t) (Rising same_subset (edges t) word words) edge_of (transitions t v) (transitions-rising t v) (λ s r m n l. l)

  starts_sorted : Sorted Nearer (starts t)
  starts_sorted = Sorted.more {xs = []} (λ y m. absurd (Memᴰ.not-nil m)) Sorted.none

  -- Theorem: the nodes stand in that order.
  pub nodes_sorted : Sorted Nearer (nodes t)
  unfolding nodes
  nodes_sorted =
      ways_sorted same_subset (edges t) word words adds edges-rising subset_sound (starts t) starts_sorted 0 start-way (fuel t)

  -- Theorem: whatever the root leads to is listed, by the first of all ways to it.
  pub nodes_led : {v : Subset} {ss : List Transition} → Along t (root t) ss v
      → Led same_subset (edges t) Nearer (nodes t) (record { way = ss; at = v })
  unfolding nodes
  nodes_led a =
      ways_first same_subset (edges t) word words adds edges-rising subset_sound (starts t) starts_sorted 0 start-way (fuel t)
      (omega (arith, nodes-few)) (along_found a)

  pub nodes-all : {v : Subset} → Reachable t v → Visits v (nodes t)
  nodes-all (ss, a) = let (x, m, e, l) = nodes_led a in (x, m, e)

  pub nodes-reachable : {v : Subset} → Visits v (nodes t) → Reachable t v
  nodes-reachable (x, m, e) = subst⁻¹ (Reachable t) e (x.way, nodes_along m)

  -- Theorem: K is the number of reachable nodes: every list of them that has each once has K elements.
  pub nodes-count : (xs : List (Item Transition Subset)) → Distinct xs → ((v : Subset) → Visits v xs → Reachable t v)
      → ((v : Subset) → Reachable t v → Visits v xs) → length xs ≡ length (nodes t)
  nodes-count xs d f g = same_number xs (nodes t) d nodes_distinct (λ v h. nodes-all (f v h)) (λ v h. g v (nodes-reachable h))

  -- so that distinct items at reachable nodes are at most K
  pub nodes-most : (xs : List (Item Transition Subset)) → Distinct xs → ((v : Subset) → Visits v xs → Reachable t v)
      → length xs ≤ length (nodes t)
  nodes-most xs d f = fewer xs (nodes t) d (λ v h. nodes-all (f v h))

  -- Theorem: a way has fewer than K transitions.
  pub nodes-short : {x : Item Transition Subset} → Memᴰ x (nodes t) → way-length x < length (nodes t)
  unfolding nodes
  nodes-short {x} m = omega (arith, search-short same_subset (edges t) 0 (fuel t) (starts t) start-way m)

  -- the root is listed first, so the rest are the reachable nodes other than it
  pub nodes-first : nodes t ≡ record { way = []; at = root t } ∷ tail (nodes t)
  unfolding nodes
  nodes-first = search-first same_subset (edges t) (fuel t) (record { way = []; at = root t }) []

  pub others_in : {x : Item Transition Subset} → Memᴰ x (tail (nodes t)) → Memᴰ x (nodes t)
  others_in {x} m = subst⁻¹ (λ (l : List (Item Transition Subset)). Memᴰ x l) nodes-first (Memᴰ.tail m)

  pub others-reachable : {v : Subset} → Visits v (tail (nodes t)) → Reachable t v × (v ≡ root t → ⊥)
  others-reachable (x, m, e) =
      (nodes-reachable (x, others_in m, e), λ q. apart (subst Distinct nodes-first nodes_distinct) (x, m, sym q ∙ e))
    where
      apart : {y : Item Transition Subset} {ys : List (Item Transition Subset)} → Distinct (y ∷ ys) → Visits y.at ys → ⊥
      apart (Distinct.more n d) = n

  pub others-all : {v : Subset} → Reachable t v → (v ≡ root t → ⊥) → Visits v (tail (nodes t))
  others-all {v} r n =
      elim (visits_cons (subst (Visits v) nodes-first (nodes-all r))) [ inl e ↦ absurd (n e) | inr h ↦ h ]

  -- the stem to a node is the way that the node comes with
  stem_in : (ns : List (Item Transition Subset)) → Distinct ns → {x : Item Transition Subset} → Memᴰ x ns → stem_to x.at ns ≡ x.way
  stem_in [] d m = absurd (Memᴰ.not-nil m)
  stem_in (n ∷ ns) (Distinct.more f d) {x} m =
      by_test (same_subset x.at n.at) (λ b. cond b n.way (stem_to x.at ns) ≡ x.way)
      (λ h.
      elim (Memᴰ.cases_cons m) [
        | inl e ↦ ap (λ (y : Item Transition Subset). y.way) (sym e)
        | inr r ↦ absurd (f (x, r, sym (subset_sound x.at n.at h)))
      ])
      (λ h.
      elim (Memᴰ.cases_cons m) [
        | inl e ↦ absurd (h (subst (λ (y : Item Transition Subset). T (same_subset x.at y.at)) e (subset_refl x.at)))
        | inr r ↦ stem_in ns d r
      ])

  abbrev pub stem : Subset → List Transition
  stem v = stem_to v (nodes t)

  pub stem_of : {n : Item Transition Subset} → Memᴰ n (nodes t) → stem n.at ≡ n.way
  stem_of m = stem_in (nodes t) nodes_distinct m

  -- Theorem: the stem to a node leads there from the root, with fewer than K transitions,
  pub stem-leads : {v : Subset} → Reachable t v → Along t (root t) (stem v) v
  stem-leads r =
      let (n, m, e) = nodes-all r in
      subst⁻¹ (λ (u : Subset). Along t (root t) (stem u) u) e
      (subst⁻¹ (λ (ss : List Transition). Along t (root t) ss n.at) (stem_of m) (nodes_along m))

  pub stem_short : {v : Subset} → Reachable t v → length (stem v) < length (nodes t)
  stem_short r =
      let (n, m, e) = nodes-all r in
      omega (arith, nodes-short m, ap (λ (u : Subset). length (stem u)) e, ap length (stem_of m))

  -- and no run from the root to it comes first.
  pub stem-first : {v : Subset} {ss : List Transition} → Along t (root t) ss v
      → NoLater (length (stem v) ∷ choice_words t (stem v)) (length ss ∷ choice_words t ss)
  stem-first {v} {ss} a =
      let (n, m, e, l) = nodes_led a in
      subst⁻¹ (λ (rs : List Transition). NoLater (length rs ∷ choice_words t rs) (length ss ∷ choice_words t ss)) (ap stem e ∙ stem_of m)
      (elim l [ inl q ↦ inl (ap by_way q) | inr h ↦ inr h ])

-- one operand for each next
pub operands-count : (t : Table) → length (operands t) ≡ how_many is_next t
operands-count [] = refl
operands-count (Operator.leaf l ∷ t) = operands-count t
operands-count (Operator.variable m ∷ t) = operands-count t
operands-count (Operator.pair o l r ∷ t) = operands-count t
operands-count (Operator.next g ∷ t) = ap suc (operands-count t)
operands-count (Operator.fix g l ∷ t) = operands-count t

-- Theorem (MEANING 5.6): K is at most 1 + 2^n, where n is the number of next operators in the formula. It holds of every formula, so of
-- each that reading accepts.
pub nodes_few_next : (f : Formula) → length (nodes (table f)) ≤ 1 + 2 ^ nexts f
nodes_few_next f =
    subst (λ (n : ℕ). length (nodes (table f)) ≤ 1 + 2 ^ n) (operands-count (table f) ∙ table-nexts f) (nodes-few (table f))
