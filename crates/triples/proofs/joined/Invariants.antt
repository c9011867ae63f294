-- `triples::joined` fills a table row by row. The invariant: the rows passed are joined.
use Rattle.std.proofs.Common.{◌≡◌, length}
use Rattle.triples.proofs.JoinLaws.{JoinedTo}
use Rattle.triples.proofs.joined.Given as goal

abbrev pub invariant-loop-f : goal.invariant-loop-f
invariant-loop-f l = (length l.t ≡ 144) × JoinedTo l.n l.a l.b l.f l.t
