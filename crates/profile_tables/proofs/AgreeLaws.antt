-- What the decision needs of the profiles that the code keeps, in one statement (`ProfilesAgree`): there are no more than the definition
-- has, and the one at a number has the numbers of its first and last node, is accepting exactly if it is, and following the parents from it
-- gives the letters of its run; parents have smaller numbers, so that ends. It holds for the table of every accepted formula, however many
-- of the profiles the search has gone on from, and so do the ends of the layers (`agrees`). The first accepting one of the kept profiles is
-- the first of all (`first-accepting`); where none is among the first k, the first of all stands behind these (`first-behind`), and where
-- all are kept there is none (`none-accepting`). Assumes nothing.
use mathlib.Core.Path.{◌≡◌, ap, subst, subst⁻¹, ◌∙◌}
use mathlib.Core.Bool.{Bool, false, not, ◌&&◌}
use mathlib.Core.Option.{none, some}
use mathlib.Core.List.{List, ◌++◌, map, Memᴰ}
use Prim.Native.Nat.{ℕ, suc, ◌+◌, ◌≤◌, ◌<◌}
use native.Mathlib.Omega.{arith}
use native.Mathlib.Decide.{dec_le}
use lib.Dec.{T}
use lib.ListN.{length, get_or, length-append}
use Rattle.base.specs.Lists.{first}
use Rattle.base.specs.Search.{within}
use Rattle.base.specs.Spread.{each_label, labels_to, Linked}
use Rattle.base.proofs.At.{At, at_lt, at_left, at_some, at_one, first-at, first-nowhere, first-stands}
use Rattle.base.proofs.LayerLaws.{Parted}
use Rattle.base.proofs.MatchLaws.{Matches, matches_at, matches_length, matches_linked, labels-letters}
use Rattle.formula.specs.Formula.{Formula}
use Rattle.formula.specs.Table.{Table, table}
use Rattle.formula.specs.Reading.{Reading, parse}
use Rattle.tableau.specs.Saturation.{Subset, same_subset}
use Rattle.tableau.specs.Transition.{Transition, letter, transitions}
use Rattle.tableau.specs.Nodes.{root, operands, nodes}
use Rattle.profile.specs.Profiles as literal
use Rattle.profile.proofs.RootLaws.{root-apart}
use Rattle.profile_tables.specs.Triples.{rejecting}
use Rattle.profile_tables.specs.Marks.{leasts}
use Rattle.profile_tables.specs.Runs.{FoundProfile, singles, profiles, count_within, accepting}
use Rattle.profile_tables.proofs.CarryLaws.{carries_rejecting}
use Rattle.profile_tables.proofs.TableLaws.{TableFormed}
use Rattle.profile_tables.proofs.FormedLaws.{parse-formed}
use Rattle.profile_tables.proofs.NodeNumbers.{sets, same-range}
use Rattle.profile_tables.proofs.RunLaws.{ItemListed, Codes, profiles_match}
use Rattle.profile_tables.proofs.LayerLaws.{profiles_begin, found-whole, layers_parted, counts-within}

-- the letters of a profile's run
abbrev pub letters_of : ItemListed → List ℕ
letters_of y = map letter y.way

-- x, number i of the profiles that are kept, and its counterpart among the profiles ys
pub record Agreed (t : Table) (ys : List ItemListed) (i : ℕ) (x : FoundProfile) : Type 0 where
  pub item : ItemListed
  pub stands : At ys i item
  pub first : At (sets (nodes t)) x.at.first item.at.first
  pub last : At (sets (nodes t)) x.at.last item.at.last
  pub accepts : accepting t x ≡ literal.accepting t item

-- all that are kept, where `of` gives the profile of each number
pub record ProfilesAgree (t : Table) (xs : List FoundProfile) (ys : List ItemListed) : Type 0 where
  pub few : length xs ≤ length ys
  pub each : (i : ℕ) (x : FoundProfile) → At xs i x → Agreed t ys i x
  pub linked : (of : ℕ → FoundProfile) → ((i : ℕ) → i < length xs → At xs i (of i)) → Linked of (length xs)
  pub letters : (of : ℕ → FoundProfile) → ((i : ℕ) → i < length xs → At xs i (of i)) → (i : ℕ) (y : ItemListed) → At ys i y
      → i < length xs → labels_to each_label of (suc i) ≡ letters_of y

-- The search of the code and the definition's: what is found after k turns agrees; where all that is found is gone on from, that is all;
-- and the layers end where the definition's runs of at most l transitions do, with as many profiles.
pub record SearchAgrees (t : Table) : Type 0 where
  pub agree : (k : ℕ) → ProfilesAgree t (profiles k t (sets (nodes t))) (literal.profiles t (nodes t))
  pub whole : (k : ℕ) → length (profiles k t (sets (nodes t))) ≤ k
      → length (literal.profiles t (nodes t)) ≤ length (profiles k t (sets (nodes t)))
  pub parted : (l : ℕ) → Parted (literal.profiles t (nodes t)) (count_within (length (operands t)) (singles t (sets (nodes t))) l) l
  pub counts : (l : ℕ) → count_within (length (operands t)) (singles t (sets (nodes t))) l
      ≡ length (within l (literal.profiles t (nodes t)))

-- the first accepting one
module _ {t : Table} {xs : List FoundProfile} {ys : List ItemListed} (a : ProfilesAgree t xs ys) where
  -- what a listed profile is, its counterpart is
  kept-accepting : {j : ℕ} {y : ItemListed} → At ys j y → T (literal.accepting t y) → j < length xs
      → (x : FoundProfile) × At xs j x × T (accepting t x)
  kept-accepting {j} b h k =
      let (x, c) = at_some xs j k in
      let r = a.each j x c in
      (x, c, subst⁻¹ T r.accepts (subst (λ (y : ItemListed). T (literal.accepting t y)) (at_one b r.stands) h))

  pub first-accepting : {i : ℕ} {x : FoundProfile} (b : At xs i x) → T (accepting t x)
      → ((j : ℕ) (y : FoundProfile) → At xs j y → j < i → T (accepting t y) → ⊥)
      → first (literal.accepting t) ys ≡ some (a.each i x b).item
  first-accepting {i} {x} b h f =
      let r = a.each i x b in
      first-at (literal.accepting t) r.stands (subst T r.accepts h)
      (λ j y c l k. let (z, d, g) = kept-accepting c k (omega (arith, at_lt b)) in f j z d l g)

  module _ {k : ℕ} (none_before : (j : ℕ) (x : FoundProfile) → At xs j x → j < k → T (accepting t x) → ⊥) where
    pub first-behind : k ≤ length xs → {y : ItemListed} → first (literal.accepting t) ys ≡ some y → (i : ℕ) × At ys i y × (k ≤ i)
    first-behind h {y} e =
        let (i, b, g) = first-stands (literal.accepting t) ys e in
        elim (dec_le k i) [
          | yes l ↦ (i, b, l)
          | no n ↦ absurd (let (z, d, r) = kept-accepting b g (omega arith) in none_before i z d (omega arith) r)
        ]

    pub none-accepting : length ys ≤ k → k ≤ length xs → first (literal.accepting t) ys ≡ none
    none-accepting h l =
        first-nowhere (literal.accepting t) ys
        (λ j y c g.
        let m = at_lt c in
        let (z, d, r) = kept-accepting c g (omega arith) in none_before j z d (omega arith) r)

module _ (t : Table) (formed : TableFormed t) (apart : (v : Subset) (s : Transition) → Memᴰ s (transitions t v) → s.to ≡ root t
    → ⊥) where
  accepting-same : (x : FoundProfile) (y : ItemListed) → Codes t x.at y.at → accepting t x ≡ literal.accepting t y
  unfolding accepting literal.rejecting
  accepting-same x y c =
      let back = same-range t c.first c.last in
      let good = carries_rejecting t formed.few x.at.triple_set y.at.triple_set c.triple_set in
      ap (λ (b : Bool). b && not (rejecting (λ i. get_or (leasts t) i false) (length (operands t)) x.at.triple_set)) back
      ∙ ap (λ (b : Bool). same_subset y.at.first y.at.last && not b) good

  -- an item and its counterpart
  stands_for : {ys : List ItemListed} (i : ℕ) (x : FoundProfile) (y : ItemListed) → At ys i y → Codes t x.at y.at → Agreed t ys i x
  stands_for i x y a c = record { item = y; stands = a; first = c.first; last = c.last; accepts = accepting-same x y c }

  matched : {xs all : List FoundProfile} {ys : List ItemListed} (more : List FoundProfile) → all ≡ xs ++ more
      → Matches letter each_label (Codes t) all ys → ProfilesAgree t xs ys
  matched {xs} {all} {ys} more e m = record {
    few = omega (arith, matches_length letter each_label (Codes t) m, shorter);
    each = λ i x a.
        let (y, b) = at_some ys i (omega (arith, at_lt a, matches_length letter each_label (Codes t) m, shorter)) in
        let (z, d, f, l) = matches_at letter each_label (Codes t) m b in
        subst (Agreed t ys i) (at_one d (still a)) (stands_for i z y b f.codes);
    linked = λ of stands. matches_linked letter each_label (Codes t) m of shorter (λ i h. still (stands i h));
    letters = λ of stands i y a. labels-letters letter each_label (Codes t) m of shorter (λ i h. still (stands i h)) a;
  }
    where
      shorter : length xs ≤ length all
      shorter = omega (arith, ap length e, length-append xs more)

      still : {i : ℕ} {x : FoundProfile} → At xs i x → At all i x
      still {i} {x} a = subst⁻¹ (λ (l : List FoundProfile). At l i x) e (at_left more a)

  abbrev listed : List ItemListed
  listed = literal.profiles t (nodes t)

  -- after k turns
  turns_agree : (k : ℕ) → ProfilesAgree t (profiles k t (sets (nodes t))) listed
  turns_agree k =
      let (more, e) = profiles_begin t (sets (nodes t)) k (k + length listed) (omega arith) in
      matched more e (profiles_match t formed apart (k + length listed) (omega arith))

  all_found : (k : ℕ) → length (profiles k t (sets (nodes t))) ≤ k → length listed ≤ length (profiles k t (sets (nodes t)))
  unfolding profiles
  all_found k h =
      omega (
        arith,
        ap length (found-whole (length (operands t)) (singles t (sets (nodes t))) k (k + length listed) (omega arith) h),
        matches_length letter each_label (Codes t) (profiles_match t formed apart (k + length listed) (omega arith)),
      )

  pub formed_agrees : SearchAgrees t
  formed_agrees = record {
    agree = turns_agree;
    whole = all_found;
    parted = layers_parted t formed apart;
    counts = counts-within t formed apart;
  }

-- Theorem: the search agrees for the table of every accepted formula.
pub agrees : (bytes : List ℕ) (f : Formula) → parse bytes ≡ Reading.accepted f → SearchAgrees (table f)
agrees bytes f p = formed_agrees (table f) (parse-formed bytes f p) (root-apart f)
