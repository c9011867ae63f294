-- The search for profiles by layers. Going on from where some turns ended is going on (`layer-on`), so what is found grows with the turns
-- (`found_begin`), and once all that is found is gone on from, that is all (`found-whole`). A profile of one transition has no parent, and
-- every other one names the profile that it goes on from; so the ends of the layers are what `count_within` counts, and it counts the
-- definition's profiles of runs of at most l transitions (`counts-within`), which stand first (`layers_parted`). Assumes nothing.
use mathlib.Core.Path.{◌≡◌, refl, sym, ap, ◌∙◌}
use mathlib.Core.Logic.{inl, inr}
use mathlib.Core.List.Memᴰ
use mathlib.Core.List.{List, [], ◌∷◌, ◌++◌, map, Memᴰ}
use Prim.Native.Nat.{ℕ, zero, suc, ◌+◌, ◌-◌, ◌≤◌}
use native.Mathlib.Omega.{arith}
use lib.Dec.{eqb}
use lib.ListN.{length, length-append}
use Rattle.base.specs.Lists.{At, tail}
use Rattle.base.specs.Search.{within}
use Rattle.base.specs.Spread.{spread, each_label}
use Rattle.base.proofs.At.{at_lt}
use Rattle.base.proofs.CondLaws.{cond_of}
use Rattle.base.proofs.MemberLaws.{flat_map_of}
use Rattle.base.proofs.SpreadLaws.{adds-at, spread-begins, spread-done, spread-add}
use Rattle.base.proofs.MatchLaws.{Matches, matches_length}
use Rattle.base.proofs.LayerLaws.{Parted, parted_none, parted_next, parted_count}
use Rattle.formula.specs.Table.{Table}
use Rattle.tableau.specs.Saturation.{Subset}
use Rattle.tableau.specs.Transition.{Transition, letter, transitions}
use Rattle.tableau.specs.Nodes.{root, operands, nodes}
use Rattle.profile.specs.Profiles as literal
use Rattle.profile_tables.specs.Triples.{join}
use Rattle.profile_tables.specs.Marks.{triples}
use Rattle.profile_tables.specs.Runs.{FoundProfile, same_profile, follow, longer, profiles_from, layer, count_within, single_of}
use Rattle.profile_tables.specs.Runs.{singles_from, singles, profiles}
use Rattle.profile_tables.proofs.NodeNumbers.{node-sets}
use Rattle.profile_tables.proofs.TableLaws.{TableFormed}
use Rattle.profile_tables.proofs.RunLaws.{ItemListed, Codes, profiles_match}

-- p turns, and then those up to q
module _ (n : ℕ) (singles : List FoundProfile) where
  pub layer-on : (p q : ℕ) → p ≤ q → layer n singles p q (profiles_from p n singles) ≡ profiles_from q n singles
  unfolding layer profiles_from join
  layer-on p q h =
      ap (λ (i : ℕ). spread same_profile (longer n singles) (q - p) i (profiles_from p n singles)) {x = p} {y = 0 + p} (omega arith)
      ∙ sym (spread-add same_profile (longer n singles) p (q - p) 0 singles)
      ∙ ap (λ (k : ℕ). profiles_from k n singles) {x = p + (q - p)} {y = q} (omega arith)

  pub found_begin : (p q : ℕ) → p ≤ q → (more : List FoundProfile) × (profiles_from q n singles ≡ profiles_from p n singles ++ more)
  unfolding layer join
  found_begin p q h =
      let (more, e) = spread-begins same_profile (longer n singles) (q - p) p (profiles_from p n singles) in
      (more, sym (layer-on p q h) ∙ e)

  pub found-whole : (p q : ℕ) → p ≤ q → length (profiles_from p n singles) ≤ p → profiles_from q n singles ≡ profiles_from p n singles
  unfolding layer join
  found-whole p q h l = sym (layer-on p q h) ∙ spread-done same_profile (longer n singles) (q - p) p (profiles_from p n singles) l

module _ (t : Table) (vs : List Subset) where
  pub profiles_begin : (p q : ℕ) → p ≤ q → (more : List FoundProfile) × (profiles q t vs ≡ profiles p t vs ++ more)
  unfolding profiles
  profiles_begin p q h = found_begin (length (operands t)) (singles t vs) p q h

  -- what one transition gives has no parent
  ones_begun : (i : ℕ) (us : List Subset) {x : FoundProfile} → Memᴰ x (singles_from t vs i us) → x.parent ≡ 0
  unfolding triples
  ones_begun i [] m = absurd (Memᴰ.not-nil m)
  ones_begun i (u ∷ us) m =
      elim (Memᴰ.append_cases (map (single_of t vs i u) (transitions t u)) m) [
        | inl a ↦
            let (s, r, e) = Memᴰ.of_map (single_of t vs i u) (transitions t u) a in
            ap (λ (y : FoundProfile). y.parent) (sym e)
        | inr b ↦ ones_begun (suc i) us b
      ]

  singles-begun : (i : ℕ) (x : FoundProfile) → At (singles t vs) i x → x.parent ≡ 0
  unfolding singles triples
  singles-begun i x a =
      elim (adds-at same_profile [] (singles_from t vs 1 (tail vs)) a)
      [ inl b ↦ absurd (omega (arith, at_lt b)) | inr m ↦ ones_begun 1 (tail vs) m ]

-- and what goes on from a profile names it
longer-parent : (n : ℕ) (singles : List FoundProfile) (p : ℕ) (x y : FoundProfile) → Memᴰ y (longer n singles p x)
    → y.parent ≡ suc p
unfolding join
longer-parent n singles p x y m =
    let (s, r, k) = flat_map_of (follow n p x) singles m in
    let (h, i) = cond_of (eqb x.at.last s.at.first) _ k in
    ap (λ (z : FoundProfile). z.parent) (Memᴰ.eq_of_singleton i)

module _ (t : Table) (formed : TableFormed t) (apart : (v : Subset) (s : Transition) → Memᴰ s (transitions t v) → s.to ≡ root t
    → ⊥) where
  abbrev listed : List ItemListed
  listed = literal.profiles t (nodes t)

  abbrev ones : List FoundProfile
  ones = singles t (node-sets t)

  abbrev counted : ℕ → ℕ
  counted = count_within (length (operands t)) ones

  match : (k : ℕ) → Matches letter each_label (Codes t) (profiles (k + length listed) t (node-sets t)) listed
  match k = profiles_match t formed apart (k + length listed) (omega arith)

  -- Theorem: the layers end there,
  pub layers_parted : (l : ℕ) → Parted listed (counted l) l
  unfolding profiles profiles_from join
  layers_parted zero = parted_none letter (Codes t) (match 0)
  layers_parted (suc l) =
      parted_next letter (Codes t) (match (counted l)) (layers_parted l) same_profile (longer (length (operands t)) ones)
      (longer-parent (length (operands t)) ones) ones (singles-begun t (node-sets t)) (length listed) refl

  counted-few : (l : ℕ) → counted l ≤ length listed
  unfolding profiles
  counted-few zero = omega arith
  counted-few (suc l) =
      let (more, e) = profiles_begin t (node-sets t) (counted l) (counted l + length listed) (omega arith) in
      omega (
        arith,
        ap length e,
        length-append (profiles (counted l) t (node-sets t)) more,
        matches_length letter each_label (Codes t) (match (counted l)),
      )

  -- and so many profiles are of runs of at most l transitions.
  pub counts-within : (l : ℕ) → counted l ≡ length (within l listed)
  counts-within l = sym (parted_count (layers_parted l) (counted-few l))
