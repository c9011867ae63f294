-- `triples::comes_back` takes row f through the laps until it has a priority of the mask at f, or a lap adds nothing to it, which all later
-- ones then do not either. The invariant: the laps left lead from the row to row f of the definition's laps. These hold all that the row
-- holds: if it has a priority of the mask at f, so have they. A row that a lap adds nothing to is row f of the laps.
use Rattle.std.proofs.Common.{◌≡◌, ◌-◌, ◌*◌, length}
use Rattle.triples.proofs.RowLaws.{OnWay}
use Rattle.triples.proofs.comes_back.Given as goal

abbrev pub invariant-loop : goal.invariant-loop
invariant-loop l = (length l.row ≡ 12) × OnWay l.n l.a l.f l.row (8 * (l.n * l.n) - l.counter)
