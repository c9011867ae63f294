-- `Text::letters` meets its contract. The invariant: the texts of the letters passed were written, into the same buffer. Assumes nothing.
use Rattle.std.proofs.Common.{◌∙◌}
use Rattle.text.specs.Text.{letter_text}
use Rattle.text.proofs.Each.{one_member_more, all_members}
use Rattle.text.proofs.Text.letters.Goals as goal

pub loop-x-preserved : goal.loop-x-preserved
loop-x-preserved c =
    let text = letter_text c.args.front.now c.args.back.now in
    record {
      same_buffer = c.letter.ensures.same_buffer ∙ c.loop-x.invariant.same_buffer;
      wrote = one_member_more text _ _ c.loop-x-test.true c.loop-x.invariant.wrote c.letter.ensures.wrote;
    }

pub returns-clause-wrote : goal.returns-clause-wrote
returns-clause-wrote c =
    let text = letter_text c.args.front.now c.args.back.now in
    all_members text _ _ c.loop-x-test.false c.loop-x.invariant.wrote
