-- `profile_search::bucket` hashes a profile: its two nodes, and then its triples row by row. The invariant: the first f rows are in the
-- hash.
use Rattle.std.proofs.Common.{◌≡◌, ℕ, ◌<◌, List, map}
use mathlib.Core.List.{foldl}
use Rattle.base.specs.Lists.{range}
use Rattle.profile_search.specs.Stored.{row_of, mixed_row}
use Rattle.profile_search.proofs.bucket.Given as goal

-- the first f of n rows are in the hash h
pub record Hashed (t : List ℕ) (n h₀ h f : ℕ) : Type 0 where
  pub small : h < 4294967296
  pub hash : h ≡ foldl mixed_row h₀ (map (row_of t n) (range 0 f))

abbrev pub invariant-loop-f : goal.invariant-loop-f
invariant-loop-f l = Hashed l.t l.n l.initial.h l.h l.f
