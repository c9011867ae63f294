-- `triples::joined_row` adds to a row the triples of another one joined with b. The invariant: it has those by way of the operands passed.
use Rattle.triples.specs.Inner.{bytes_from, by_way, RowWith}
use Rattle.triples.proofs.joined_row.Given as goal

abbrev pub invariant-loop-m : goal.invariant-loop-m
invariant-loop-m l = RowWith l.initial.r 12 (by_way (bytes_from l.a l.at) l.b l.m) l.r
