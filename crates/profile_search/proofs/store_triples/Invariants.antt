-- `profile_search::store_triples` copies 144 bytes. The invariant: those passed are copied, and no other has changed.
use Rattle.std.proofs.Common.{◌≡◌, ℕ, ◌+◌, ◌<◌, get_or}
use Rattle.profile_search.specs.Stored.{BytesBetween}
use Rattle.profile_search.proofs.store_triples.Given as goal

abbrev pub invariant-loop-i : goal.invariant-loop-i
invariant-loop-i l =
    ((j : ℕ) → j < l.i → get_or l.area (l.at + j) 0 ≡ get_or l.t j 0) × BytesBetween l.at (l.at + 144) l.initial.area l.area
