-- `Text::letters` meets its contract. The invariant: the texts of the letters passed were written, into the same buffer. Assumes nothing.
use Rattle.std.proofs.Common.{◌≡◌, take}
use Rattle.text.specs.State.{state}
use Rattle.text.specs.Text.{Wrote, each, letter_text}
use Rattle.text.proofs.Text.letters.Given as goal

abbrev pub invariant-loop-x : goal.invariant-loop-x
invariant-loop-x l =
    record {
      same_buffer : l.self.bytes.ghost_name ≡ l.initial.self.bytes.ghost_name;
      wrote : Wrote (state l.initial.self) (each (letter_text l.front l.back) (take l.x-index l.letters)) (state l.self);
    }
