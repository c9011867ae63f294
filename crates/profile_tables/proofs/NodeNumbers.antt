-- Nodes by number: the code keeps the nodes as a list and speaks of them by where they stand in it, the root first. Each node has one
-- number (`one_number`), the one that `number_of` finds (`number_at`), so equal numbers are equal nodes (`same-range`). Assumes nothing.
use mathlib.Core.Path.{◌≡◌, refl, sym, ap, subst, subst⁻¹, ◌∙◌}
use mathlib.Core.List.Memᴰ
use mathlib.Core.List.{List, [], ◌∷◌, map, Memᴰ}
use Prim.Native.Nat.{ℕ, suc, ◌+◌, ◌<◌}
use native.Mathlib.Omega.{arith}
use lib.Dec.{T, eqb, eqb→eq, eqb_refl}
use Rattle.base.specs.Lists.{tail}
use Rattle.base.specs.Search.{Item}
use Rattle.base.proofs.TestLaws.{same_truth}
use Rattle.base.proofs.At.{At, at_in, at_one, at_map, at_unmap}
use Rattle.base.proofs.IndexLaws.{index_at}
use Rattle.base.proofs.SearchLaws.{Visits, Distinct}
use Rattle.formula.specs.Table.{Table}
use Rattle.tableau.specs.Saturation.{Subset, same_subset}
use Rattle.tableau.specs.Transition.{Transition, transitions}
use Rattle.tableau.specs.Nodes.{root, nodes}
use Rattle.tableau.specs.Run.{Reachable}
use Rattle.tableau.proofs.SaturationLaws.{subset_sound, subset_refl}
use Rattle.tableau.proofs.NodeLaws.{by_transition, nodes_distinct, nodes-all, nodes-reachable, nodes-first, others-all}
use Rattle.profile_tables.specs.Runs.{number_of}

-- the sets of a list of nodes
abbrev set_at : Item Transition Subset → Subset
set_at x = x.at

abbrev pub sets : List (Item Transition Subset) → List Subset
sets xs = map set_at xs

pub tail-sets : (xs : List (Item Transition Subset)) → tail (sets xs) ≡ sets (tail xs)
tail-sets [] = refl
tail-sets (x ∷ xs) = refl

-- two numbers at which the same set stands
numbers_agree : (xs : List (Item Transition Subset)) → Distinct xs → {i j : ℕ} {v w : Subset} → At (sets xs) i v → At (sets xs) j w →
    v ≡ w → i ≡ j
numbers_agree [] d a b e = elim a [ ]
numbers_agree (x ∷ xs) d At.here At.here e = refl
numbers_agree (x ∷ xs) (Distinct.more n d) At.here (At.there b) e =
    let (z, c, q) = at_unmap set_at xs b in absurd (n (z, at_in c, e ∙ sym q))
numbers_agree (x ∷ xs) (Distinct.more n d) (At.there a) At.here e =
    let (z, c, q) = at_unmap set_at xs a in absurd (n (z, at_in c, sym e ∙ sym q))
numbers_agree (x ∷ xs) (Distinct.more n d) (At.there a) (At.there b) e = ap suc (numbers_agree xs d a b e)

pub one_number : (xs : List (Item Transition Subset)) → Distinct xs → {i j : ℕ} {v : Subset} → At (sets xs) i v → At (sets xs) j v → i ≡ j
one_number xs d a b = numbers_agree xs d a b refl

pub number_at : (vs : List Subset) {v : Subset} → Memᴰ v vs → At vs (number_of vs v) v
number_at vs {v} m = index_at (λ u. same_subset u v) vs (λ u h. subset_sound u v h) (subset_refl v) m

module _ (t : Table) where
  abbrev pub node-sets : List Subset
  node-sets = sets (nodes t)

  pub root-first : At node-sets 0 (root t)
  root-first = subst⁻¹ (λ (l : List (Item Transition Subset)). At (sets l) 0 (root t)) (nodes-first t) At.here

  pub node-reachable : {j : ℕ} {v : Subset} → At node-sets j v → Reachable t v
  node-reachable a =
      let (x, b, e) = at_unmap set_at (nodes t) a in
      nodes-reachable t (x, at_in b, sym e)

  -- where a transition of a node leads
  pub leads_in : {j : ℕ} {v : Subset} (s : Transition) → At node-sets j v → Memᴰ s (transitions t v)
      → At node-sets (number_of node-sets s.to) s.to
  leads_in s a m =
      let (x, r, e) = nodes-all t (by_transition (node-reachable a) m) in
      number_at node-sets (Memᴰ.cast e (Memᴰ.map set_at r))

  -- the nodes other than the root, from number 1 on
  pub others : {k : ℕ} {x : Item Transition Subset} → At (tail (nodes t)) k x → At node-sets (1 + k) x.at
  others {k} {x} a =
      subst (λ (i : ℕ). At node-sets i x.at) {x = suc k} {y = 1 + k} (omega arith)
      (subst⁻¹ (λ (l : List (Item Transition Subset)). At (sets l) (suc k) x.at) (nodes-first t) (At.there (at_map set_at a)))

  -- a node that is not the root is among the others
  pub other_visits : {i : ℕ} {v : Subset} → At node-sets i v → 0 < i → Visits v (tail (nodes t))
  other_visits a l = others-all t (node-reachable a)
      (λ q. absurd (omega (arith, one_number (nodes t) (nodes_distinct t) a (subst⁻¹ (At node-sets 0) q root-first))))

  -- equal numbers, equal nodes
  pub same-range : {i j : ℕ} {u v : Subset} → At node-sets i u → At node-sets j v → eqb i j ≡ same_subset u v
  same-range {i} {j} {u} {v} a b =
      same_truth (eqb i j) (same_subset u v)
      (λ h.
      let q = at_one (subst (λ (k : ℕ). At node-sets k u) (eqb→eq i j h) a) b in
      subst (λ (w : Subset). T (same_subset u w)) q (subset_refl u))
      (λ h.
      let q = one_number (nodes t) (nodes_distinct t) a (subst⁻¹ (At node-sets j) (subset_sound u v h) b) in
      subst (λ (k : ℕ). T (eqb i k)) q (eqb_refl i))
