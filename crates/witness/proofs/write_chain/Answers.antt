-- `witness::write_chain` writes the letters from the last to the first. The invariant: those up to the item where it stands are to be
-- written, and the others are.
use Rattle.std.proofs.Common.{refl}
use Rattle.witness.proofs.WriteLaws.{turning, turn_some, turn_next}
use Rattle.witness.proofs.write_chain.Goals as goal

pub overflow_sub-left : goal.overflow_sub-left
overflow_sub-left g c =
    turn_some (turning c.requires.chain_noted.linked c.requires.letters_fit c.in-Some.ensures.some c.loop-note.invariant)

pub loop-note-preserved : goal.loop-note-preserved
loop-note-preserved g c =
    turn_next (turning c.requires.chain_noted.linked c.requires.letters_fit c.in-Some.ensures.some c.loop-note.invariant) _ refl
    c.in-Some.ensures.parent c.in-Some.ensures.letter refl
