-- `joint::word_of` goes from the highest position down, and each doubles what was there.
use Rattle.std.proofs.Common.{◌∙◌, ◌-◌, false, get_or, rules}
use Rattle.joint.proofs.WordingLaws.{bit-byte, wording_more, wording_small}
use Rattle.joint.proofs.word_of.Goals as goal

pub overflow_mul-x : goal.overflow_mul-x
overflow_mul-x c =
    let bit = c.from.ensures ∙ bit-byte (get_or c.args.taken (c.loop-i.i - 1) false) in
    search (rules, wording_small (wording_more c.loop-i.invariant c.loop-i-test.true bit))

pub overflow_add-x : goal.overflow_add-x
overflow_add-x c =
    let bit = c.from.ensures ∙ bit-byte (get_or c.args.taken (c.loop-i.i - 1) false) in
    search (rules, wording_small (wording_more c.loop-i.invariant c.loop-i-test.true bit))
