-- `triples::row_of` copies 12 bytes. The invariant: the columns passed are copied.
use Rattle.std.proofs.Common.{◌≡◌, ℕ, ◌+◌, ◌*◌, ◌<◌, length, get_or}
use Rattle.triples.proofs.row_of.Given as goal

abbrev pub invariant-loop-g : goal.invariant-loop-g
invariant-loop-g l = (length l.row ≡ 12) × ((j : ℕ) → j < l.g → get_or l.row j 0 ≡ get_or l.a (l.f * 12 + j) 0)
