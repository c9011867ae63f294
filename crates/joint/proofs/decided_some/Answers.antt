-- `joint::decided_some` decides what the buffer has from where the conjunction begins.
use mathlib.Core.Path.{◌∙◌}
use Rattle.joint.proofs.ConjoinLaws.{rest-is}
use Rattle.joint.proofs.ShrinkLaws.{decided_of}
use borrow.Author.Rules.{rules}
use Rattle.joint.proofs.decided_some.Goals as goal

pub conjoin-at-requires : goal.conjoin-at-requires
conjoin-at-requires c =
    record { readable = c.requires.readable; out_len = search rules }

pub slice_bounds-decided-count : goal.slice_bounds-decided-count
slice_bounds-decided-count c = search (rules, c.conjoin-at.ensures.within, c.conjoin-at.ensures.long)

pub slice_bounds-decided-start : goal.slice_bounds-decided-start
slice_bounds-decided-start c =
    search (rules, c.conjoin-at.ensures.within, c.conjoin-at.ensures.long)

pub slice_bounds-decided-end : goal.slice_bounds-decided-end
slice_bounds-decided-end c =
    search (rules, c.conjoin-at.ensures.within, c.conjoin-at.ensures.long)

pub decided-requires : goal.decided-requires
decided-requires c =
    search (rules, c.requires.lends)

pub returns : goal.returns
returns c =
    decided_of (rest-is c.conjoin-at.new.out c.conjoin-at.result (search (rules, c.conjoin-at.ensures.long)) ∙ c.conjoin-at.ensures.is)
    c.decided.ensures
