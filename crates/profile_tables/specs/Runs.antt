-- Profiles over numbered nodes, each with the number of the profile that it goes on from and its last letter. They go on by the
-- profiles of one transition. Assumes nothing.
use Rattle.std.specs.Prelude.{Bool, false, cond, not, ◌&&◌, List, [], ◌∷◌, ◌++◌, map, ℕ, zero, suc, ◌-◌, eqb, length, get_or}
use Rattle.base.specs.Lists.{flat_map, index, tail}
use Rattle.base.specs.Spread.{Numbered, adds, spread}
use Rattle.formula.specs.Table.{Table}
use Rattle.tableau.specs.Saturation.{Subset, same_subset}
use Rattle.tableau.specs.Transition.{Transition, letter, transitions}
use Rattle.tableau.specs.Nodes.{operands}
use Rattle.profile_tables.specs.Triples.{Triples, same_triples, join, rejecting}
use Rattle.profile_tables.specs.Marks.{triples, leasts}

-- a profile: the numbers of its nodes, and its triples as a table of bits
pub record TableProfile : Type 0 where
  pub first : ℕ
  pub last : ℕ
  pub triple_set : Triples

-- whether two profiles are equal
abbrev pub same_profile : TableProfile → TableProfile → Bool
same_profile a b = eqb a.first b.first && eqb a.last b.last && same_triples a.triple_set b.triple_set

-- a profile, with the profile that it goes on from and its last letter
abbrev pub FoundProfile : Type 0
FoundProfile = Numbered ℕ TableProfile

-- the first run's end is the second's beginning
abbrev pub follow : ℕ → ℕ → FoundProfile → FoundProfile → List FoundProfile
unfolding join
follow n p x s =
    let r : FoundProfile = record {
      at = record
          { first = x.at.first; last = s.at.last; triple_set = join n x.at.triple_set s.at.triple_set };
      parent = suc p;
      label =
          s.label;
    } in
    cond (eqb x.at.last s.at.first) (r ∷ []) []

-- one transition more: the profiles of one transition that begin where this one ends
abbrev pub longer : ℕ → List FoundProfile → ℕ → FoundProfile → List FoundProfile
unfolding join
longer n singles p x = flat_map (follow n p x) singles

-- what is found from those of one transition, going on from k of them one after the other; with k for fuel enough, all profiles
unfoldable pub profiles_from : (k n : ℕ) → List FoundProfile → List FoundProfile
unfolding join
profiles_from k n singles = spread same_profile (longer n singles) k 0 singles

-- the same where the first p of the profiles xs are gone on from, and then those up to number q
unfoldable pub layer : (n : ℕ) → List FoundProfile → (p q : ℕ) → List FoundProfile → List FoundProfile
unfolding join
layer n singles p q xs = spread same_profile (longer n singles) (q - p) p xs

-- how many profiles there are of runs of at most l transitions: those of l + 1 are there once all of at most l are gone on from
abbrev pub count_within : (n : ℕ) → List FoundProfile → (l : ℕ) → ℕ
unfolding profiles_from
count_within n singles zero = 0
count_within n singles (suc l) = length (profiles_from (count_within n singles l) n singles)

-- the number of a node
abbrev pub number_of : List Subset → Subset → ℕ
number_of vs v = index (λ u. same_subset u v) vs

-- the profile of a transition of node i, which is the set v
abbrev pub single_of : Table → List Subset → (i : ℕ) → Subset → Transition → FoundProfile
single_of t ns i v s = record {
  at = record { first = i; last = number_of ns s.to; triple_set = triples t v s.choice };
  parent = 0;
  label = letter s;
}

-- the runs of one transition from node i
abbrev pub singles_of : Table → List Subset → ℕ → Subset → List FoundProfile
unfolding triples
singles_of t ns i v = map (single_of t ns i v) (transitions t v)

-- the runs of one transition from node i on
abbrev pub singles_from : Table → List Subset → ℕ → List Subset → List FoundProfile
unfolding triples
singles_from t ns i [] = []
singles_from t ns i (v ∷ vs) = singles_of t ns i v ++ singles_from t ns (suc i) vs

-- the profiles of one transition, given the nodes, the root first
unfoldable pub singles : Table → List Subset → List FoundProfile
unfolding triples transitions
singles t ns = adds same_profile [] (singles_from t ns 1 (tail ns))

-- the profiles, given the nodes, after k turns
unfoldable pub profiles : (k : ℕ) → Table → List Subset → List FoundProfile
unfolding singles profiles_from
profiles k t ns = profiles_from k (length (operands t)) (singles t ns)

-- back to its first node, and not rejecting
unfoldable pub accepting : Table → FoundProfile → Bool
unfolding rejecting
accepting t x = let k = leasts t in
    eqb x.at.first x.at.last && not (rejecting (λ i. get_or k i false) (length (operands t)) x.at.triple_set)
