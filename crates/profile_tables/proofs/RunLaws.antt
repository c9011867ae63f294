-- The profiles that the code keeps are the definition's, in the same order, each with the same letters (`profiles_match`). A profile codes
-- another when its nodes are the numbers of the other's and its table carries the other's triples. The runs of one transition from each
-- node are paired one for one with the first items of the other search; going on by them, the first of each kind only, is going on by the
-- transitions of the last node. Assumes nothing.
use mathlib.Core.Path.{◌≡◌, refl, sym, ap, subst, subst⁻¹, ◌∙◌}
use mathlib.Core.Logic.{inl, inr}
use mathlib.Core.Bool.{Bool, true, false, cond, ◌&&◌}
use mathlib.Core.List.Memᴰ
use mathlib.Core.List.{List, [], ◌∷◌, ◌++◌, map, map-append, map-map, append-nil, Memᴰ}
use Prim.Native.Nat.{ℕ, zero, suc, ◌+◌, ◌≤◌, ◌<◌}
use native.Mathlib.Omega.{arith}
use lib.Dec.{T, eqb, eqb→eq, eqb_refl}
use lib.ListN.{length}
use Rattle.base.specs.Lists.{flat_map, tail}
use Rattle.base.specs.Search.{Item, onward}
use Rattle.base.specs.Spread.{adds, spread, each_label}
use Rattle.base.proofs.AppendLaws.{flat_map_append}
use Rattle.base.proofs.BoolLaws.{by_test, of_T, to_T, and_left, and_right, and_both}
use Rattle.base.proofs.At.{At, at_one}
use Rattle.base.proofs.Pairs.{Pairs, pairs_append, pairs_maps}
use Rattle.base.proofs.SearchLaws.{Visits, visits_cons, visits_later, Distinct, onwards}
use Rattle.base.proofs.MatchLaws.{start, item, Follows, Matches, Thins, search_matches, pairs_thins}
use Rattle.formula.specs.Table.{Table}
use Rattle.tableau.specs.Saturation.{Subset, same_subset}
use Rattle.tableau.specs.Transition.{Transition, letter, transitions}
use Rattle.tableau.specs.Nodes.{root, operands, nodes}
use Rattle.tableau.proofs.SaturationLaws.{subset_sound, subset_refl}
use Rattle.tableau.proofs.NodeLaws.{nodes_distinct, nodes-first}
use Rattle.profile.specs.Traces as literal-triples
use Rattle.profile.specs.Profiles as literal
use Rattle.profile.proofs.ProfileLaws.{profile_sound, profile_refl, few}
use Rattle.profile_tables.specs.Triples.{same_triples, join}
use Rattle.profile_tables.specs.Marks.{triples}
use Rattle.profile_tables.specs.Runs.{TableProfile, same_profile, FoundProfile, follow, longer, number_of, single_of, singles_from}
use Rattle.profile_tables.specs.Runs.{singles, profiles_from}
use Rattle.profile_tables.specs.Runs.{profiles}
use Rattle.profile_tables.proofs.NodeNumbers.{sets, tail-sets, one_number, node-sets, root-first, leads_in, others, other_visits}
use Rattle.profile_tables.proofs.NodeNumbers.{same-range}
use Rattle.profile_tables.proofs.TriplesLaws.{same_triples-sound, same_triples_refl}
use Rattle.profile_tables.proofs.CarryLaws.{Carries, carries_set, carries_table, carries_join}
use Rattle.profile_tables.proofs.TableLaws.{TableFormed, carries_triples}
use Rattle.profile_tables.proofs.ThinLaws.{all_of, adds_thin, Steps, flat_map_thins}

-- the tests on coded profiles
pub same-sound : (a b : TableProfile) → T (same_profile a b) → a ≡ b
same-sound a b h =
    let u = eqb a.first b.first in
    let v = eqb a.last b.last in
    let w = same_triples a.triple_set b.triple_set in
    let x = eqb→eq a.first b.first (and_left u v (and_left (u && v) w h)) in
    let y = eqb→eq a.last b.last (and_right u v (and_left (u && v) w h)) in
    let z = same_triples-sound a.triple_set b.triple_set (and_right (u && v) w h) in
    λ i. record { first = x i; last = y i; triple_set = z i }

same_refl : (a : TableProfile) → T (same_profile a a)
same_refl a =
    let u = eqb a.first a.first in
    let v = eqb a.last a.last in
    and_both (u && v) (same_triples a.triple_set a.triple_set) (and_both u v (eqb_refl a.first) (eqb_refl a.last))
    (same_triples_refl a.triple_set)

-- of lists for each node, those of one node alone
module _ {D : Type 0} (u : Subset) (next : Subset → List Transition) (k : Transition → D) where
  abbrev pick : Bool → Transition → List D
  pick b s = cond b (k s ∷ []) []

  all_picked : (b : Bool) (ss : List Transition) → all_of (map (pick b) ss) ≡ cond b (map k ss) []
  all_picked true [] = refl
  all_picked true (s ∷ ss) = ap (λ (l : List D). k s ∷ l) (all_picked true ss)
  all_picked false [] = refl
  all_picked false (s ∷ ss) = all_picked false ss

  abbrev pub picked : Subset → Transition → List D
  picked v s = pick (same_subset u v) s

  abbrev row : Item Transition Subset → List (List D)
  row x = map (picked x.at) (next x.at)

  split : (x : Item Transition Subset) (xs : List (Item Transition Subset))
      → all_of (flat_map row (x ∷ xs)) ≡ cond (same_subset u x.at) (map k (next x.at)) [] ++ all_of (flat_map row xs)
  split x xs =
      flat_map_append (λ (l : List D). l) (row x) (flat_map row xs)
      ∙ ap (λ (l : List D). l ++ all_of (flat_map row xs)) (all_picked (same_subset u x.at) (next x.at))

  none_picked : (xs : List (Item Transition Subset)) → (Visits u xs → ⊥) → all_of (flat_map row xs) ≡ []
  none_picked [] n = refl
  none_picked (x ∷ xs) n =
      split x xs
      ∙ by_test (same_subset u x.at) (λ b. cond b (map k (next x.at)) [] ++ all_of (flat_map row xs) ≡ [])
      (λ h. absurd (n (x, Memᴰ.head refl, subset_sound u x.at h)))
      (λ h. none_picked xs (λ v. n (visits_later x v)))

  pub one_picked : (xs : List (Item Transition Subset)) → Distinct xs → Visits u xs → all_of (flat_map row xs) ≡ map k (next u)
  one_picked [] d v = absurd (Memᴰ.not-nil v.1)
  one_picked (x ∷ xs) (Distinct.more n d) v =
      split x xs
      ∙ by_test (same_subset u x.at) (λ b. cond b (map k (next x.at)) [] ++ all_of (flat_map row xs) ≡ map k (next u))
      (λ h.
      let e = subset_sound u x.at h in
      ap (λ (l : List D). map k (next x.at) ++ l) (none_picked xs (λ w. n (subst (λ (a : Subset). Visits a xs) e w)))
      ∙ append-nil (map k (next x.at))
      ∙ ap (λ (a : Subset). map k (next a)) (sym e))
      (λ h.
      elim (visits_cons v)
      [ inl e ↦ absurd (h (subst (λ (a : Subset). T (same_subset u a)) e (subset_refl u))) | inr w ↦ one_picked xs d w ])

cond_one : {A : Type 0} (b : Bool) {x y : A} → cond b (x ∷ []) [] ≡ y ∷ [] → T b × (x ≡ y)
cond_one true e = (tt, cc)
cond_one false e = absurd (let z : ◌≡◌ {A = ℕ} 0 1 = cc in omega arith)

later : {x : Item Transition Subset} {xs : List (Item Transition Subset)} → Distinct (x ∷ xs) → Distinct xs
later (Distinct.more n d) = d

-- a profile as the definition's search lists it, with the transitions of its run
abbrev pub ItemListed : Type 0
ItemListed = Item Transition literal.Profile

module _ (t : Table) where
  -- a profile over node numbers and tables, and the profile that it stands for; it does not end at the root, which is number 0
  pub record Codes (a : TableProfile) (b : literal.Profile) : Type 0 where
    pub first : At (node-sets t) a.first b.first
    pub last : At (node-sets t) a.last b.last
    pub on : 0 < a.last
    pub triple_set : Carries t a.triple_set b.triple_set

  -- the run of one transition s from node v, number j
  abbrev one : ℕ → Subset → Transition → FoundProfile
  one = single_of t (node-sets t)

  module _ (formed : TableFormed t) (apart : (v : Subset) (s : Transition) → Memᴰ s (transitions t v) → s.to ≡ root t → ⊥) where
    one_profile : (a : TableProfile) (b c : literal.Profile) → Codes a b → Codes a c → b ≡ c
    one_profile a b c p q =
        let x = at_one p.first q.first in
        let y = at_one p.last q.last in
        let z = carries_set t formed.few a.triple_set b.triple_set c.triple_set p.triple_set q.triple_set in
        λ i. record { first = x i; last = y i; triple_set = z i }

    one_code : (a b : TableProfile) (c : literal.Profile) → Codes a c → Codes b c → a ≡ b
    one_code a b c p q =
        let x = one_number (nodes t) (nodes_distinct t) p.first q.first in
        let y = one_number (nodes t) (nodes_distinct t) p.last q.last in
        let z = carries_table t formed.few a.triple_set b.triple_set c.triple_set p.triple_set q.triple_set in
        λ i. record { first = x i; last = y i; triple_set = z i }

    leads-on : {j : ℕ} {v : Subset} (s : Transition) → At (node-sets t) j v → Memᴰ s (transitions t v)
        → 0 < number_of (node-sets t) s.to
    leads-on {v = v} s a m = by (number_of (node-sets t) s.to) (leads_in t s a m)
      where
        by : (i : ℕ) → At (node-sets t) i s.to → 0 < i
        by zero b = absurd (apart v s m (at_one b (root-first t)))
        by (suc i) b = omega arith

    single_codes : (j : ℕ) (v : Subset) (s : Transition) → At (node-sets t) j v → Memᴰ s (transitions t v)
        → Codes (one j v s).at (record { first = v; last = s.to; triple_set = literal-triples.triples t v s.choice })
    single_codes j v s a m =
        record { first = a; last = leads_in t s a m; on = leads-on s a m; triple_set = carries_triples t formed v s.choice }

    -- these runs, paired with whatever else is listed for each node and transition
    singles_pairs : {D : Type 0} (P : FoundProfile → D → Type 0) (h : Subset → Transition → D) (xs : List (Item Transition Subset)) (i : ℕ)
        → ((k : ℕ) (x : Item Transition Subset) → At xs k x → At (node-sets t) (i + k) x.at)
        → ((j : ℕ) (v : Subset) (s : Transition) → At (node-sets t) j v → Memᴰ s (transitions t v) → P (one j v s) (h v s))
        → Pairs P (singles_from t (node-sets t) i (sets xs))
        (flat_map (λ (x : Item Transition Subset). map (h x.at) (transitions t x.at)) xs)
    unfolding triples
    singles_pairs P h [] i f g = Pairs.none
    singles_pairs P h (x ∷ xs) i f g =
        let a : At (node-sets t) i x.at = subst (λ (n : ℕ). At (node-sets t) n x.at) {x = i + 0} {y = i} (omega arith)
        (f 0 x At.here) in
        pairs_append (pairs_maps (one i x.at) (h x.at) (transitions t x.at) (λ s m. g i x.at s a m))
        (singles_pairs P h xs (suc i)
        (λ k y b. subst (λ (n : ℕ). At (node-sets t) n y.at) {x = i + suc k} {y = suc i + k} (omega arith) (f (suc k) y (At.there b))) g)

    -- all runs of one transition, and those that are kept
    abbrev all-singles : List FoundProfile
    all-singles = singles_from t (node-sets t) 1 (sets (tail (nodes t)))

    singles_are : singles t (node-sets t) ≡ adds same_profile [] all-singles
    unfolding singles triples
    singles_are = ap (λ (l : List Subset). adds same_profile [] (singles_from t (node-sets t) 1 l)) (tail-sets (nodes t))

    abbrev starts : List ItemListed
    starts = flat_map (λ (n : Item Transition Subset). map (literal.single_item t n.at) (transitions t n.at)) (tail (nodes t))

    start_thins : Thins letter each_label Codes [] [] all-singles starts
    unfolding literal-triples.triples
    start_thins =
        pairs_thins
        (singles_pairs (Follows letter each_label Codes []) (literal.single_item t) (tail (nodes t)) 1 (λ k x a. others t a)
        (λ j v s a m. record { codes = single_codes j v s a m; before = []; parent = start; way = refl })) []

    -- What a profile leads to.
    module _ (all : List ItemListed) (p : ℕ) (x : FoundProfile) (y : ItemListed) (here : At all p y)
        (c : Codes x.at y.at)
      where
        abbrev n : ℕ
        n = length (operands t)

        abbrev u : Subset
        u = y.at.last

        abbrev next : Transition → ItemListed
        next s = onward literal.same_profile (literal.profile_edges t) y (literal.longer t y.at s)

        abbrev goes_to : TableProfile → TableProfile
        goes_to q = record { first = x.at.first; last = q.last; triple_set = join n x.at.triple_set q.triple_set }

        abbrev gone : FoundProfile → FoundProfile
        gone s = record { at = goes_to s.at; parent = suc p; label = s.label }

        follow-is : (s : FoundProfile) → follow n p x s ≡ cond (eqb x.at.last s.at.first) (gone s ∷ []) []
        unfolding join
        follow-is s = refl

        gone-follows : (j : ℕ) (v : Subset) (s : Transition) → At (node-sets t) j v → Memᴰ s (transitions t v) → u ≡ v
            → Follows letter each_label Codes all (gone (one j v s)) (next s)
        unfolding literal-triples.triples literal-triples.join
        gone-follows j v s a m q =
            let d = single_codes j v s a m in
            record {
              codes =
                  record {
                    first = c.first;
                    last = d.last;
                    on = d.on;
                    triple_set =
                        subst⁻¹ (λ (w : Subset). Carries t (join n x.at.triple_set (triples t v s.choice))
                        (literal-triples.join t y.at.triple_set (literal-triples.triples t w s.choice))) q
                        (carries_join t formed.few x.at.triple_set (triples t v s.choice) y.at.triple_set
                        (literal-triples.triples t v s.choice) c.triple_set
                        d.triple_set);
                  };
              before = map letter y.way;
              parent = item here;
              way = map-append letter y.way (s ∷ []);
            }

        steps : (j : ℕ) (v : Subset) (s : Transition) → At (node-sets t) j v → Memᴰ s (transitions t v)
            → Steps letter each_label Codes one_profile all (follow n p x) (one j v s) (picked u (transitions t) next v s)
        steps j v s a m = by (same_subset u v) refl
          where
            by : (b : Bool) → same_subset u v ≡ b
                → Steps letter each_label Codes one_profile all (follow n p x) (one j v s) (picked u (transitions t) next v s)
            by true e =
                inr (
                  gone (one j v s),
                  next s,
                  follow-is (one j v s) ∙ ap (λ (b : Bool). cond b (gone (one j v s) ∷ []) []) (same-range t c.last a ∙ e),
                  ap (λ (b : Bool). cond b (next s ∷ []) []) e,
                  gone-follows j v s a m (subset_sound u v (to_T (same_subset u v) e)),
                )
            by false e =
                inl (
                  follow-is (one j v s) ∙ ap (λ (b : Bool). cond b (gone (one j v s) ∷ []) []) (same-range t c.last a ∙ e),
                  ap (λ (b : Bool). cond b (next s ∷ []) []) e,
                )

        follows-alike : (z w : FoundProfile) → z.at ≡ w.at → (w₁ : FoundProfile) → follow n p x w ≡ w₁ ∷ []
            → (z₁ : FoundProfile) × (follow n p x z ≡ z₁ ∷ []) × (z₁.at ≡ w₁.at)
        follows-alike z w q w₁ e =
            let (h, r) = cond_one (eqb x.at.last w.at.first) (sym (follow-is w) ∙ e) in
            let k : T (eqb x.at.last z.at.first) = subst⁻¹ (λ (a : TableProfile). T (eqb x.at.last a.first)) q h in (
              gone z,
              follow-is z ∙ ap (λ (b : Bool). cond b (gone z ∷ []) []) (of_T (eqb x.at.last z.at.first) k),
              ap goes_to q ∙ ap (λ (a : FoundProfile). a.at) r,
            )

        expands : Thins letter each_label Codes all [] (longer n (singles t (node-sets t)) p x)
            (onwards literal.same_profile (literal.profile_edges t) y)
        unfolding join literal-triples.triples literal-triples.join
        expands =
            let (kept, e, thin) = adds_thin same_profile same-sound [] [] all-singles (λ z m. m) in
            subst⁻¹ (λ (l : List FoundProfile). Thins letter each_label Codes all [] (flat_map (follow n p x) l)
            (onwards literal.same_profile (literal.profile_edges t) y))
            (singles_are ∙ e)
            (subst (Thins letter each_label Codes all [] (flat_map (follow n p x) kept))
            (one_picked u (transitions t) next (tail (nodes t)) (later (subst Distinct (nodes-first t) (nodes_distinct t)))
            (other_visits t c.last c.on)
            ∙ sym (map-map (onward literal.same_profile (literal.profile_edges t) y) (literal.longer t y.at) (transitions t u)))
            (flat_map_thins letter each_label Codes one_profile all (follow n p x) follows-alike thin
            (singles_pairs (Steps letter each_label Codes one_profile all (follow n p x)) (picked u (transitions t) next) (tail (nodes t)) 1
            (λ k x a. others t a) steps)
            [] (λ z m. absurd (Memᴰ.not-nil m))))

    -- Theorem: with fuel enough the profiles match.
    pub profiles_match : (fuel : ℕ) → length (literal.profiles t (nodes t)) ≤ fuel
        → Matches letter each_label Codes (profiles fuel t (node-sets t)) (literal.profiles t (nodes t))
    unfolding profiles profiles_from join literal.profiles literal-triples.triples literal-triples.join
    profiles_match fuel h =
        subst⁻¹ (λ (l : List FoundProfile). Matches letter each_label Codes
        (spread same_profile (longer (length (operands t)) (singles t (node-sets t))) fuel 0 l) (literal.profiles t (nodes t))) singles_are
        (search_matches letter each_label Codes literal.same_profile (literal.profile_edges t) profile_sound profile_refl same_profile
        same-sound same_refl one_profile one_code
        (longer (length (operands t)) (singles t (node-sets t))) expands (literal.profile_room t (length (nodes t))) fuel starts all-singles
        start_thins (omega (arith, few t)) h)
