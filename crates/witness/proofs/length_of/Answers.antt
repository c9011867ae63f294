-- `witness::length_of` follows the notes to the chain's end. The invariant: the letters counted and those to go are all.
use Rattle.std.proofs.Common.{arith}
use Rattle.witness.proofs.ChainLaws.{counted-few, counted_next}
use Rattle.witness.proofs.length_of.Goals as goal

pub overflow_add-n : goal.overflow_add-n
overflow_add-n g c =
    record {
      fits =
          omega (arith, counted-few _ c.requires.linked c.loop-note.invariant c.in-Some.ensures.some, c.requires.few);
    }

pub loop-note-preserved : goal.loop-note-preserved
loop-note-preserved g c =
    counted_next _ c.requires.linked c.loop-note.invariant c.in-Some.ensures.some _ c.in-Some.ensures.parent
