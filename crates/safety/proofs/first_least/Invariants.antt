-- `safety::first_least` goes through the rows, with the place of each operator's first byte.
use Rattle.safety.proofs.SeekLaws.{Seeking}
use Rattle.safety.proofs.first_least.Given as goal

abbrev pub invariant-loop-e : goal.invariant-loop-e
invariant-loop-e l = Seeking l.t.table.rows l.t.table.count l.place l.e
