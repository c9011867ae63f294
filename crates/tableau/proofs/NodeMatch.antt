-- The nodes by the search over one list, each with the node that it was reached from and the letter between, are the definition's, in the
-- same order (`nodes_match`): a set stands for itself, and going on from a node is going on by its transitions. So the notes of where the
-- search came from tell the letters of its ways (`notes-origins`). Assumes nothing.
use Rattle.std.proofs.Common.{◌≡◌, refl, sym, ap, ◌∙◌, Bool, cond, List, [], ◌∷◌, ◌++◌, map, ℕ, ◌+◌, ◌^◌, ◌≤◌, ◌<◌, arith, eqb, length}
use Rattle.std.proofs.Math.Dec.{eqb-suc-zero}
use Rattle.std.proofs.Math.Path.{subst⁻¹}
use mathlib.Core.List.{map-append, map-map}
use Rattle.base.specs.Lists.{At}
use Rattle.base.specs.Search.{Item, onward}
use Rattle.base.specs.Spread.{spread, edge_label}
use Rattle.base.proofs.At.{at_get, at_some}
use Rattle.base.proofs.Pairs.{Pairs, pairs_maps}
use Rattle.base.proofs.SearchLaws.{onwards}
use Rattle.base.proofs.MatchLaws.{Before, start, item, Follows, Matches, Thins, matches_length, matches_at, search_matches}
use Rattle.base.proofs.MatchLaws.{pairs_thins, matches_vertices}
use Rattle.formula.specs.Table.{Table}
use Rattle.tableau.specs.Saturation.{Subset, same_subset}
use Rattle.tableau.specs.Transition.{Transition, letter, transitions}
use Rattle.tableau.specs.Nodes.{root, edges, operands, nodes}
use Rattle.tableau.specs.Origins.{way_letters, parent_at, Origin, Origins}
use Rattle.tableau.specs.Area.{reachable, ReachedNode, worded, root_reached, reached_by, outs, NoteOf}
use Rattle.tableau.specs.Found.{onward_from}
use Rattle.tableau.proofs.SaturationLaws.{subset_sound, subset_refl}
use Rattle.tableau.proofs.NodeLaws.{nodes-few}

-- a set stands for itself
abbrev Itself : Subset → Subset → Type 0
Itself u v = u ≡ v

-- the same nodes, and the ways to them by the letters
abbrev pub Matched : List ReachedNode → List (Item Transition Subset) → Type 0
Matched l ns = Matches letter edge_label Itself l ns

module _ (t : Table) where
  abbrev target-from : Item Transition Subset → Transition → Item Transition Subset
  target-from y s = record { way = y.way ++ (s ∷ []); at = s.to }

  goes_on : (all : List (Item Transition Subset)) (i : ℕ) (y : Item Transition Subset) → At all i y → (s : Transition)
      → Follows letter edge_label Itself all (reached_by i s) (target-from y s)
  goes_on all i y stands s = record {
    codes = refl;
    before = map letter y.way;
    parent = item stands;
    way = map-append letter y.way (s ∷ [])
        ∙ ap (λ (b : Bool). map letter y.way ++ cond b [] (letter s ∷ [])) (sym (eqb-suc-zero i));
  }

  expands : (all : List (Item Transition Subset)) (i : ℕ) (x : ReachedNode) (y : Item Transition Subset) → At all i y → x.at ≡ y.at
      → Thins letter edge_label Itself all [] (onward_from t i x) (onwards same_subset (edges t) y)
  unfolding transitions
  expands all i x y stands e =
      subst⁻¹ (λ (v : Subset). Thins letter edge_label Itself all [] (outs t i v) (onwards same_subset (edges t) y)) e
      (subst⁻¹ (Thins letter edge_label Itself all [] (outs t i y.at))
      (map-map (onward same_subset (edges t) y) _ (transitions t y.at))
      (pairs_thins (pairs_maps (reached_by i) (target-from y) (transitions t y.at) (λ s m. goes_on all i y stands s)) []))

  begins : Thins letter edge_label Itself [] [] (root_reached t ∷ []) (record { way = []; at = root t } ∷ [])
  begins = pairs_thins (Pairs.more (record { codes = refl; before = []; parent = start; way = refl }) Pairs.none) []

  -- with fuel enough for all nodes
  pub nodes_match : (fuel : ℕ) → length (nodes t) ≤ fuel
      → Matched (spread same_subset (onward_from t) fuel 0 (root_reached t ∷ [])) (nodes t)
  unfolding nodes
  nodes_match fuel h =
      search_matches letter edge_label Itself same_subset (edges t) subset_sound subset_refl same_subset subset_sound
      subset_refl (λ j k l p q. sym p ∙ q) (λ i j k p q. p ∙ sym q) (onward_from t) expands (2 + 2 ^ length (operands t)) fuel
      (record { way = []; at = root t } ∷ []) (root_reached t ∷ []) begins (omega (arith, nodes-few t)) h

  pub matched_sets : {l : List ReachedNode} → Matched l (nodes t) → map (λ (x : ReachedNode). x.at) l ≡ reachable t
  matched_sets m = matches_vertices letter edge_label m

  -- the letters of the way to a node
  abbrev nowhere : Item Transition Subset
  nowhere = record { way = []; at = [] }

  letters-at : {j : ℕ} {y : Item Transition Subset} → At (nodes t) j y → way_letters t j ≡ map letter y.way
  unfolding nodes
  letters-at a = ap (λ (y : Item Transition Subset). map letter y.way) (at_get a nowhere)

  -- one node, reached from another
  origin : (x : ReachedNode) (j k : ℕ) (before : List ℕ) {o : List ℕ} → Before letter edge_label Itself (nodes t) k before
      → x.parent ≡ k → 0 < k → k ≤ j → NoteOf o j (worded x) → way_letters t j ≡ before ++ edge_label x → Origin t o j
  origin x j k before start e h l n w = absurd (omega arith)
  origin x j k before {o} (item {i} a) e h l n w =
      let p : parent_at o j ≡ i = n.parent_is ∙ omega (arith, e) in
      record {
        before = omega (arith, p);
        onward = w
            ∙ ap (λ (m : ℕ). before ++ cond (eqb m 0) [] (x.label ∷ [])) e
            ∙ ap (λ (b : Bool). before ++ cond b [] (x.label ∷ [])) (eqb-suc-zero i)
            ∙ ap (λ (ls : List ℕ). ls ++ (x.label ∷ [])) (sym (letters-at a))
            ∙ (λ q. way_letters t (sym p q) ++ (sym n.letter_is q ∷ []));
      }

  -- where each node but the root was reached from another, the notes of all tell their ways
  pub notes-origins : {l : List ReachedNode} {o : List ℕ} → Matched l (nodes t)
      → ((j : ℕ) (x : ReachedNode) → At l j x → 0 < j → 0 < x.parent) → ((j : ℕ) (x : ReachedNode) → At l j x → NoteOf o j (worded x))
      → Origins t o (length l)
  notes-origins {l} {o} m others notes = record { is = λ j h n. go j h n }
    where
      go : (j : ℕ) → 0 < j → j < length l → Origin t o j
      go j h n =
          let (y, a) = at_some (nodes t) j (omega (arith, matches_length letter edge_label Itself m)) in
          let (x, b, f, low) = matches_at letter edge_label Itself m a in
          origin x j x.parent f.before f.parent refl (others j x b h) low (notes j x b) (letters-at a ∙ f.way)
