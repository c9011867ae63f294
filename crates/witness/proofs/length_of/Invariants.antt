-- `witness::length_of` follows the notes to the chain's end. The invariant: the letters counted and those to go are all.
use Rattle.witness.proofs.ChainLaws.{ChainCounted}
use Rattle.witness.proofs.length_of.Given as goal

abbrev pub invariant-loop-note : goal.invariant-loop-note
invariant-loop-note g l = ChainCounted (g.N.Notes.item l.notes) (g.N.Notes.link l.notes l.fn.top) l.n (g.N.Notes.link l.notes l.at)

abbrev pub decreases-loop-note : goal.decreases-loop-note
decreases-loop-note g l = g.N.Notes.link l.notes l.at
