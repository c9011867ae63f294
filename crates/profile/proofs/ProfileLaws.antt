-- The profiles are exactly those of runs of one or more transitions whose first node is reachable and not the root, each once, so
-- that P is their number; `Run` says it without search and fuel. A profile's nodes are reachable and its triples are a part of all
-- triples, so the search's fuel is enough. The profiles stand in the order of MEANING 5.4, and each comes with the first of the runs that
-- have it, in particular with a shortest. Those with runs of at most l transitions are therefore the profiles of such runs, c of l in
-- number, and c of l is at least l where a listed run has l transitions. Assumes nothing.
use mathlib.Core.Path.{◌≡◌, refl, sym, ap, subst, subst⁻¹, ◌∙◌}
use mathlib.Core.Bool.{◌&&◌}
use mathlib.Core.Logic.{inl, inr}
use mathlib.Core.List.Memᴰ
use mathlib.Core.List.{List, [], ◌∷◌, ◌++◌, map, map-append, append_assoc, Memᴰ}
use Prim.Native.Nat.{ℕ, ◌*◌, ◌^◌, ◌≤◌, ◌<◌}
use native.Mathlib.Omega.{arith}
use native.Mathlib.Nat.{mul_assoc, le_of_eq}
use lib.Dec.{T}
use lib.ListN.{length, length-map}
use Rattle.base.specs.Lists.{flat_map, alike, tail}
use Rattle.base.specs.Order.{Before}
use Rattle.base.specs.Search.{Edge, Item, onward, within}
use Rattle.base.proofs.BoolLaws.{and_left, and_right, and_both}
use Rattle.base.proofs.MemberLaws.{flat_map_of, flat_map_in, length-flat_map, alike-sound, alike_refl, parts, parts_length, parts_in}
use Rattle.base.proofs.MemberLaws.{filter-part}
use Rattle.base.proofs.SearchLaws.{Visits, Distinct, same_number, ReachableBy, search-found, search-few, search_distinct}
use Rattle.base.proofs.WithinLaws.{within_of, within_in, within_distinct, search_short_within}
use Rattle.base.proofs.SortedLaws.{Sorted, sorted_tail, sorted_map, sorted_flat_map}
use Rattle.base.proofs.SearchOrder.{Led}
use Rattle.base.proofs.WayOrder.{Rising, ways_sorted, ways_first}
use Rattle.base.proofs.OrderLaws.{before_front, before-behind}
use Rattle.formula.specs.Table.{Table}
use Rattle.tableau.specs.Saturation.{Subset, same_subset}
use Rattle.tableau.specs.Transition.{choice_word, Transition, transitions}
use Rattle.tableau.specs.Nodes.{root, nodes}
use Rattle.tableau.proofs.SaturationLaws.{subset_sound, subset_refl}
use Rattle.tableau.specs.Foremost.{choice_words, standing}
use Rattle.tableau.proofs.ChoiceWords.{Rises, transitions-rising}
use Rattle.tableau.proofs.NodeLaws.{by_transition, by_way, Nearer, nodes_sorted, nodes-all, nodes-first, stem, stem_of}
use Rattle.tableau.proofs.NodeLaws.{others_in, others-reachable, others-all}
use Rattle.profile.specs.Traces.{Triple, same_triple, all_triples, triples, join}
use Rattle.profile.specs.Profiles.{Profile, same_profile, single, extended, longer, profile_edges, profile_room, profiles}
use Rattle.profile.specs.Cycle.{Run, Run.one, Run.more}
use Rattle.tableau.specs.Run.{Reachable}
use Rattle.profile.proofs.TripleLaws.{triple-sound, triple_refl}

-- the profile of one transition, with that transition
abbrev begun : Table → Subset → Transition → Item Transition Profile
begun t v s = record { way = s ∷ []; at = single t v s }

-- where the runs of the profiles start
pub record Begins (t : Table) (v : Subset) : Type 0 where
  pub reachable : Reachable t v
  pub no-root : v ≡ root t → ⊥

-- the test on profiles
pub profile_sound : (a b : Profile) → T (same_profile a b) → a ≡ b
profile_sound a b h =
    let u = same_subset a.first b.first in
    let v = same_subset a.last b.last in
    let w = alike same_triple a.triple_set b.triple_set in
    let x = subset_sound a.first b.first (and_left u v (and_left (u && v) w h)) in
    let y = subset_sound a.last b.last (and_right u v (and_left (u && v) w h)) in
    let z = alike-sound same_triple triple-sound a.triple_set b.triple_set (and_right (u && v) w h) in
    λ i. record { first = x i; last = y i; triple_set = z i }

pub profile_refl : (a : Profile) → T (same_profile a a)
profile_refl a =
    let u = same_subset a.first a.first in
    let v = same_subset a.last a.last in
    and_both (u && v) (alike same_triple a.triple_set a.triple_set) (and_both u v (subset_refl a.first) (subset_refl a.last))
    (alike_refl same_triple triple_refl a.triple_set)

module _ (t : Table) where
  pub run_ends : {p : Profile} {ss : List Transition} → Run t p ss → Reachable t p.first → Reachable t p.last
  run_ends (Run.one m) r = by_transition r m
  run_ends (Run.more a m) r = by_transition (run_ends a r) m

  -- What the search starts from, and where it goes on to.
  abbrev singles : Item Transition Subset → List (Item Transition Profile)
  singles n = map (begun t n.at) (transitions t n.at)

  abbrev starts : List (Item Transition Profile)
  starts = flat_map singles (tail (nodes t))

  abbrev room : ℕ
  room = profile_room t (length (nodes t))

  edges_of : (p : Profile) {e : Edge Transition Profile} → Memᴰ e (profile_edges t p)
      → (s : Transition) × Memᴰ s (transitions t p.last) × (record { label = s; to = extended t p s } ≡ e)
  unfolding triples join
  edges_of p m = Memᴰ.of_map (longer t p) (transitions t p.last) m

  edges_in : (p : Profile) {s : Transition} → Memᴰ s (transitions t p.last)
      → Memᴰ (record { label = s; to = extended t p s }) (profile_edges t p)
  unfolding triples join
  edges_in p m = Memᴰ.map (longer t p) m

  single_of : (n : Item Transition Subset) {x : Item Transition Profile} → Memᴰ x (singles n)
      → (s : Transition) × Memᴰ s (transitions t n.at) × (begun t n.at s ≡ x)
  single_of n m = Memᴰ.of_map (begun t n.at) (transitions t n.at) m

  start_of : {x : Item Transition Profile} → Memᴰ x starts
      → (n : Item Transition Subset) × Memᴰ n (tail (nodes t)) × Memᴰ x (singles n)
  start_of m = flat_map_of singles (tail (nodes t)) m

  found-run : (x : Item Transition Profile) → ReachableBy same_profile (profile_edges t) starts x
      → Run t x.at x.way × Begins t x.at.first
  found-run x (ReachableBy.start m) =
      let (n, p, q) = start_of m in
      let (s, r, e) = single_of n q in
      let (i, j) = others-reachable t (n, p, refl) in
      subst (λ (y : Item Transition Profile). Run t y.at y.way × Begins t y.at.first) e
      (one r, record { reachable = i; no-root = j })
  found-run y (ReachableBy.go {x} {e} f m) =
      let (s, r, q) = edges_of x.at m in
      let (a, b) = found-run x f in
      subst (λ (d : Edge Transition Profile). Run t d.to (x.way ++ (d.label ∷ [])) × Begins t d.to.first) q (more a r, b)

  -- How many profiles there can be.
  abbrev node-sets : List Subset
  node-sets = map (λ (x : Item Transition Subset). x.at) (nodes t)

  node_in : {v : Subset} → Reachable t v → Memᴰ v node-sets
  node_in r = let (x, m, e) = nodes-all t r in Memᴰ.cast e (Memᴰ.map (λ (x : Item Transition Subset). x.at) m)

  abbrev between : Subset → Subset → List Profile
  between a b = map (λ (c : List Triple). record { first = a; last = b; triple_set = c }) (parts (all_triples t))

  abbrev all-profiles : List Profile
  all-profiles = flat_map (λ (a : Subset). flat_map (between a) node-sets) node-sets

  run-part : {p : Profile} {ss : List Transition} → Run t p ss → Memᴰ p.triple_set (parts (all_triples t))
  unfolding triples join
  run-part (Run.one m) = parts_in (filter-part _ (all_triples t))
  run-part (Run.more r m) = parts_in (filter-part _ (all_triples t))

  run_profile : {p : Profile} {ss : List Transition} → Run t p ss → Reachable t p.first → Memᴰ p all-profiles
  run_profile {p} a r =
      flat_map_in (λ (a : Subset). flat_map (between a) node-sets) (node_in r)
      (flat_map_in (between p.first) (node_in (run_ends a r))
      (Memᴰ.map (λ (c : List Triple). record { first = p.first; last = p.last; triple_set = c }) (run-part a)))

  all-length : length all-profiles ≡ length (nodes t) * length (nodes t) * 2 ^ length (all_triples t)
  all-length =
      length-flat_map (λ (a : Subset). flat_map (between a) node-sets) (length node-sets * 2 ^ length (all_triples t)) node-sets
      (λ a. length-flat_map (between a) (2 ^ length (all_triples t)) node-sets
      (λ b. length-map (parts (all_triples t)) (λ (c : List Triple). record { first = a; last = b; triple_set = c })
      ∙ parts_length (all_triples t)))
      ∙ simp (length-map, mul_assoc)

  pub few : length (profiles t (nodes t)) < room
  unfolding profiles
  few =
      omega (
        arith,
        search-few same_profile (profile_edges t) profile_refl room starts all-profiles
            (λ x f. let (a, b) = found-run x f in run_profile a b.reachable),
        all-length,
      )

  -- Theorem: no profile is listed twice,
  pub profiles_distinct : Distinct (profiles t (nodes t))
  unfolding profiles
  profiles_distinct = search_distinct same_profile (profile_edges t) profile_refl room starts

  -- and each is that of the run whose transitions it comes with.
  pub profiles-run : {x : Item Transition Profile} → Memᴰ x (profiles t (nodes t)) → Run t x.at x.way × Begins t x.at.first
  unfolding profiles
  profiles-run {x} m = found-run x (search-found same_profile (profile_edges t) room starts m)

  single-way : (y : Item Transition Profile) → Memᴰ y starts → length y.way ≡ 1
  single-way y m =
      let (n, p, q) = start_of m in
      let (s, r, e) = single_of n q in
      ap (λ (z : Item Transition Profile). length z.way) (sym e)

  -- Theorem: a run that comes with a profile has at most as many transitions as there are profiles of runs no longer than it.
  pub profiles-short : {x : Item Transition Profile} → Memᴰ x (profiles t (nodes t))
      → length x.way ≤ length (within (length x.way) (profiles t (nodes t)))
  unfolding profiles
  profiles-short m =
      omega (
        arith,
        search_short_within same_profile (profile_edges t) 1 room starts single-way m,
      )

-- The order in which the profiles stand is that of MEANING 5.4: a run stands as the stem to its first node and the run.
module _ (t : Table) where
  abbrev pub run-standing : Item Transition Profile → List ℕ
  run-standing x = standing t (stem t x.at.first) x.way

  abbrev pub Sooner : Item Transition Profile → Item Transition Profile → Type 0
  Sooner x y = Before (run-standing x) (run-standing y)

  abbrev word : Transition → ℕ
  word s = choice_word t s.choice

  abbrev words : Item Transition Profile → List ℕ
  words x = let ss = stem t x.at.first in length ss ∷ choice_words t (ss ++ x.way)

  -- a run with one transition more has one choice word more
  adds : (x : Item Transition Profile) (e : Edge Transition Profile) → Memᴰ e (profile_edges t x.at)
      → words (onward same_profile (profile_edges t) x e) ≡ words x ++ (word e.label ∷ [])
  adds x e m =
      let (s, r, q) = edges_of t x.at m in
      let ss = stem t x.at.first in
      ap (λ (d : Edge Transition Profile). words (record { way = x.way ++ (e.label ∷ []); at = d.to })) (sym q)
      ∙ ap (λ (l : List Transition). length ss ∷ choice_words t l) (sym (append_assoc ss x.way (e.label ∷ [])))
      ∙ ap (λ (l : List ℕ). length ss ∷ l) (map-append word (ss ++ x.way) (e.label ∷ []))

  edges-rising : (p : Profile) → Sorted (Rising same_profile (profile_edges t) word words) (profile_edges t p)
  unfolding triples join
  edges-rising p =
      sorted_map (Rises t) (Rising same_profile (profile_edges t) word words) (longer t p) (transitions t p.last)
      (transitions-rising t p.last) (λ s r m n l. l)

  -- what a run of one transition from node n stands by
  single-words : (n : Item Transition Subset) → Memᴰ n (nodes t) → (s : Transition)
      → words (begun t n.at s) ≡ by_way t n ++ (word s ∷ [])
  single-words n m s =
      ap (λ (ss : List Transition). length ss ∷ choice_words t (ss ++ (s ∷ []))) (stem_of t m)
      ∙ ap (λ (l : List ℕ). length n.way ∷ l) (map-append word n.way (s ∷ []))

  singles-before : (n k : Item Transition Subset) → Memᴰ n (nodes t) → Memᴰ k (nodes t) → (s r : Transition)
      → Before (by_way t n ++ (word s ∷ [])) (by_way t k ++ (word r ∷ [])) → Sooner (begun t n.at s) (begun t k.at r)
  singles-before n k i j s r h =
      inr (
        refl,
        subst⁻¹ (λ (l : List ℕ). Before l (words (begun t k.at r))) (single-words n i s)
            (subst⁻¹ (Before (by_way t n ++ (word s ∷ []))) (single-words k j r) h),
      )

  -- those from one node, and those from two of which one is nearer
  singles_sorted : (n : Item Transition Subset) → Memᴰ n (nodes t) → Sorted Sooner (singles t n)
  singles_sorted n i =
      sorted_map (Rises t) Sooner (begun t n.at) (transitions t n.at) (transitions-rising t n.at)
      (λ s r m k l. singles-before n n i i s r (before-behind (by_way t n) (word s ∷ []) (word r ∷ []) (inl l)))

  starts_sorted : Sorted Sooner (starts t)
  starts_sorted =
      sorted_flat_map (Nearer t) Sooner (singles t) (tail (nodes t))
      (sorted_tail (Nearer t) (subst (Sorted (Nearer t)) (nodes-first t) (nodes_sorted t)))
      (λ n i. singles_sorted n (others_in t i))
      (λ n k i j h x y p q.
      let (s, a, e) = single_of t n p in
      let (r, b, f) = single_of t k q in
      subst (λ (z : Item Transition Profile). Sooner z y) e
      (subst (Sooner (begun t n.at s)) f
      (singles-before n k (others_in t i) (others_in t j) s r (before_front (by_way t n) (by_way t k) (word s ∷ []) (word r ∷ []) h))))

  -- Theorem: the profiles stand in that order,
  pub profiles_sorted : Sorted Sooner (profiles t (nodes t))
  unfolding profiles
  profiles_sorted =
      ways_sorted same_profile (profile_edges t) word words adds edges-rising profile_sound (starts t) starts_sorted 1 (single-way t)
      (room t)

  run-found : {p : Profile} {ss : List Transition} → Run t p ss → Begins t p.first
      → ReachableBy same_profile (profile_edges t) (starts t) (record { way = ss; at = p })
  run-found (Run.one {v} {s} m) b =
      let (x, q, e) = others-all t b.reachable b.no-root in
      ReachableBy.start {x = begun t v s}
      (flat_map_in (singles t) q
      (subst (λ (u : Subset). Memᴰ (begun t v s) (map (begun t u) (transitions t u))) e (Memᴰ.map (begun t v) m)))
  run-found (Run.more {p} {s} r m) b =
      ReachableBy.go {e = record { label = s; to = extended t p s }} (run-found r b) (edges_in t p m)

  -- and each run's profile is listed, with the first of the runs that have it,
  pub profiles_led : {p : Profile} {ss : List Transition} → Run t p ss → Begins t p.first
      → Led same_profile (profile_edges t) Sooner (profiles t (nodes t)) (record { way = ss; at = p })
  unfolding profiles
  profiles_led r b =
      ways_first same_profile (profile_edges t) word words adds edges-rising profile_sound (starts t) starts_sorted 1 (single-way t)
      (room t) (omega (arith, few t)) (run-found r b)

  -- which is no longer than any of them.
  pub profiles-all : {p : Profile} {ss : List Transition} → Run t p ss → Begins t p.first
      → (x : Item Transition Profile) × Memᴰ x (profiles t (nodes t)) × (p ≡ x.at) × (length x.way ≤ length ss)
  profiles-all r b =
      let (x, m, e, l) = profiles_led r b in (
        x,
        m,
        e,
        elim l [
          | inl q ↦ le_of_eq (ap (λ (y : Item Transition Profile). length y.way) q)
          | inr (inl h) ↦ omega arith
          | inr (inr (h, k)) ↦ omega arith
        ],
      )

-- MEANING 4.3: a run that begins at a node which counts has this profile.
abbrev pub IsProfile : Table → Profile → Type 0
IsProfile t p = (ss : List Transition) × Run t p ss × Begins t p.first

-- Theorem: P is the number of profiles: every list of them that has each once has P elements.
pub profiles-count : (t : Table) (xs : List (Item Transition Profile)) → Distinct xs → ((p : Profile) → Visits p xs → IsProfile t p)
    → ((p : Profile) → IsProfile t p → Visits p xs) → length xs ≡ length (profiles t (nodes t))
profiles-count t xs d f g =
    same_number xs (profiles t (nodes t)) d (profiles_distinct t)
    (λ p h.
    let (ss, r, b) = f p h in
    let (x, m, e, l) = profiles-all t r b in
    (x, m, e))
    (λ p h.
    let (x, m, e) = h in
    let (r, b) = profiles-run t m in
    g p (subst⁻¹ (IsProfile t) e (x.way, r, b)))

-- the same of a run of at most l transitions
abbrev pub IsProfileWithin : Table → (l : ℕ) → Profile → Type 0
IsProfileWithin t l p = (ss : List Transition) × Run t p ss × Begins t p.first × (length ss ≤ l)

-- Theorem: what c of l counts. Every list that has each profile of a run of at most l transitions once, and no other, has c of l elements.
pub profiles-count_within : (t : Table) (l : ℕ) (xs : List (Item Transition Profile)) → Distinct xs
    → ((p : Profile) → Visits p xs → IsProfileWithin t l p) → ((p : Profile) → IsProfileWithin t l p → Visits p xs)
    → length xs ≡ length (within l (profiles t (nodes t)))
profiles-count_within t l xs d f g =
    same_number xs (within l (profiles t (nodes t))) d (within_distinct l (profiles_distinct t))
    (λ p h.
    let (ss, r, b, k) = f p h in
    let (x, m, e, n) = profiles-all t r b in
    (x, within_in l m (omega arith), e))
    (λ p h.
    let (x, m, e) = h in
    let (i, k) = within_of l (profiles t (nodes t)) m in
    let (r, b) = profiles-run t i in
    g p (subst⁻¹ (IsProfileWithin t l) e (x.way, r, b, k)))
