-- What the search for an accepting cycle promises. It goes by layers: once all profiles of runs of at most l transitions are gone on from,
-- those of at most l + 1 are there (`count_within`, profile_tables). A reader of the decision's contract need not read it. Assumes nothing.
use Rattle.std.specs.Prelude.{◌≡◌, Bool, true, false, not, ◌&&◌, List, ℕ, suc, ◌≤◌, ◌<◌, eqb, Option, Some, None}
use Rattle.base.specs.Lists.{At}
use Rattle.profile_tables.specs.Triples.{rejecting}
use Rattle.profile_tables.specs.Runs.{FoundProfile, profiles_from, count_within}
use Rattle.profile_search.specs.Stored.{record_of, stored}
use Rattle.profile_search.specs.declared.placed.Store.{Store}
use Rattle.cycle_search.specs.declared.Sought.{Sought}
use Rattle.cycle_search.specs.declared.Sought.TheVariants as sought

-- back to its first node, and not rejecting, where a test tells the least fixpoints
unfoldable pub accepts : (ℕ → Bool) → ℕ → FoundProfile → Bool
unfolding rejecting
accepts least n x = eqb x.at.first x.at.last && not (rejecting least n x.at.triple_set)

-- p is the first number from k up to n that passes.
pub record First (test : ℕ → Bool) (k n p : ℕ) : Type 0 where
  pub from : k ≤ p
  pub below : p < n
  pub passes : test p ≡ true
  pub before : (i : ℕ) → k ≤ i → i < p → test i ≡ false

-- the first number from k up to n that passes, or none where none does
abbrev pub FirstOf : (ℕ → Bool) → (k n : ℕ) → Option ℕ → Type 0
FirstOf test k n (Some p) = First test k n p
FirstOf test k n None = (i : ℕ) → k ≤ i → i < n → test i ≡ false

-- The store has the first l + 1 layers, whose profiles are `all`, of which the first l have `from`; none of these passes the test.
pub record Layers (test : FoundProfile → Bool) (s : Store) (ones : List FoundProfile) (area : List ℕ) (l from all : ℕ) : Type 0 where
  pub from_is : from ≡ count_within s.n ones l
  pub all_is : all ≡ count_within s.n ones (suc l)
  pub room : all ≤ s.capacity
  pub records : stored s area all ≡ profiles_from from s.n ones
  pub none_passes : (p : ℕ) → p < from → test (record_of s area p) ≡ false

-- the profiles that are found once those of the first l layers are gone on from
abbrev pub found_by : Store → List FoundProfile → (l : ℕ) → List FoundProfile
found_by s ones l = profiles_from (count_within s.n ones l) s.n ones

-- What the search comes to, from the profiles of one transition. Accepting: the store has all layers up to that of the profile, which is
-- the first that passes. Nowhere: it has all profiles, and none passes. None: there is no room for the first l + 1 layers, and in the
-- first l none passes.
pub data ComesTo (test : FoundProfile → Bool) (s : Store) (ones : List FoundProfile) (area : List ℕ) : Option Sought → Type 0 where
  accepting : {from all p : ℕ} (l : ℕ) → Layers test s ones area l from all → p < all → test (record_of s area p) ≡ true
      → ((i : ℕ) → i < p → test (record_of s area i) ≡ false) → from ≤ p → ComesTo test s ones area (Some (sought.Accepting p all))
  nowhere : {all : ℕ} (l : ℕ) → Layers test s ones area l all all → ComesTo test s ones area (Some (sought.Nowhere all))
  no_room : (l : ℕ) → s.capacity < count_within s.n ones (suc l)
      → ((i : ℕ) (x : FoundProfile) → At (found_by s ones l) i x → i < count_within s.n ones l → test x ≡ false)
      → ComesTo test s ones area None
