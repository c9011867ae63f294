-- `witness::write_chain` writes the letters from the last to the first. The invariant: those up to the item where it stands are to be
-- written, and the others are.
use Rattle.witness.proofs.WriteLaws.{Backward}
use Rattle.witness.proofs.write_chain.Given as goal

abbrev pub invariant-loop-note : goal.invariant-loop-note
invariant-loop-note g l =
    Backward (g.N.Notes.item l.notes) l.start (g.N.Notes.link l.notes l.fn.top) (g.N.Notes.link l.notes l.at) l.left l.initial.letters
    l.letters

abbrev pub decreases-loop-note : goal.decreases-loop-note
decreases-loop-note g l = g.N.Notes.link l.notes l.at
