-- `formula::read` reads from the byte at which the new reader stands, the first: what is said of reading from there is said of reading.
-- Assumes nothing.
use Rattle.formula.proofs.CodeWhole.{clauses_of}
use Rattle.formula.proofs.read.Goals as goal

pub returns : goal.returns
returns c =
    let (src, first) = c.new.ensures in
    let all = clauses_of c.args.s.now c.read_from.result (rw (src, first) at c.read_from.ensures) in
    record { outcome = all.0; table = all.1; determined = all.2 }
