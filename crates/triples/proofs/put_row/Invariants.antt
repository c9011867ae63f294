-- `triples::put_row` writes 12 bytes. The invariant: the columns passed are the row's, and all else is as it was.
use Rattle.std.proofs.Common.{◌≡◌, length}
use Rattle.triples.specs.Inner.{RowPut}
use Rattle.triples.proofs.put_row.Given as goal

abbrev pub invariant-loop-g : goal.invariant-loop-g
invariant-loop-g l = (length l.t ≡ length l.initial.t) × RowPut l.initial.t l.f l.g l.row l.t
