-- `Text::put_all` meets its contract. The invariant: the bytes passed were written, into the same buffer. Assumes nothing.
use Rattle.std.proofs.Common.{◌∙◌}
use Rattle.text.proofs.Writing.{one_byte_more}
use Rattle.text.proofs.Text.put_all.Goals as goal

pub loop-b-preserved : goal.loop-b-preserved
loop-b-preserved c =
    record {
      same_buffer = c.put.ensures.same_buffer ∙ c.loop-b.invariant.same_buffer;
      wrote = one_byte_more _ _ c.loop-b-test.true c.loop-b.invariant.wrote c.put.ensures.wrote;
    }
