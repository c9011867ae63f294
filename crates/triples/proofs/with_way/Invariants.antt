-- `triples::with_way` adds to a row, column by column, the smaller ones of x and row m of b: there are none where x is empty. The
-- invariant: the columns passed have them, and all else is as it was.
use Rattle.std.proofs.Common.{◌≡◌, length}
use Rattle.triples.specs.Inner.{one_way, RowWith}
use Rattle.triples.proofs.with_way.Given as goal

abbrev pub invariant-loop-g : goal.invariant-loop-g
invariant-loop-g l = (length l.r ≡ 12) × RowWith l.initial.r l.g (one_way l.x l.b l.m) l.r
