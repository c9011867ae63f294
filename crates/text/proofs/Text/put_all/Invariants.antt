-- `Text::put_all` meets its contract. The invariant: the bytes passed were written, into the same buffer. Assumes nothing.
use Rattle.std.proofs.Common.{◌≡◌, take}
use Rattle.text.specs.State.{state}
use Rattle.text.specs.Text.{Wrote}
use Rattle.text.proofs.Text.put_all.Given as goal

abbrev pub invariant-loop-b : goal.invariant-loop-b
invariant-loop-b l =
    record {
      same_buffer : l.self.bytes.ghost_name ≡ l.initial.self.bytes.ghost_name;
      wrote : Wrote (state l.initial.self) (take l.b-index l.text) (state l.self);
    }
