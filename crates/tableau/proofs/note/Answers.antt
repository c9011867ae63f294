-- `tableau::note` writes the two numbers of a note.
use Rattle.std.proofs.Common.{arith, length-set}
use Rattle.tableau.proofs.note.Goals as goal

pub bounds-origins-j-2 : goal.bounds-origins-j-2
bounds-origins-j-2 c = simp length-set (omega arith)
