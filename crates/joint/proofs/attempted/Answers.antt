-- `joint::attempted`: nothing to decide, or the decision of what the buffer has.
use mathlib.Core.Path.{refl, ◌∙◌}
use Rattle.joint.specs.Joint.{chosen}
use Rattle.joint.specs.Inner.{held}
use Rattle.joint.proofs.ConjoinLaws.{accepted-sized, sized-chosen, rest-is, conjoins_none, conjoins_some}
use Rattle.joint.proofs.ShrinkLaws.{decided_of, attempted-none, attempted-said, decided_stays}
use borrow.Author.Rules.{rules}
use Rattle.joint.proofs.attempted.Goals as goal

pub conjoin-at-requires : goal.conjoin-at-requires
conjoin-at-requires c =
    record { readable = c.requires.readable; out_len = search rules }

pub returns-then-at-eq-CONJUNCTION : goal.returns-then-at-eq-CONJUNCTION
returns-then-at-eq-CONJUNCTION c =
    let bs = held c.args.formulas.now in
    let sized = sized-chosen c.args.taken bs (accepted-sized c.requires.readable.accepted) in record {
      told = attempted-none c.args.node_capacity c.args.profile_capacity
          (conjoins_none 776 c.conjoin-at.ensures (search rules) sized (search rules));
      kept = refl;
    }

pub slice_bounds-decided-count : goal.slice_bounds-decided-count
slice_bounds-decided-count c =
    search (rules, c.conjoin-at.ensures.within, c.conjoin-at.ensures.long)

pub slice_bounds-decided-start : goal.slice_bounds-decided-start
slice_bounds-decided-start c =
    search (rules, c.conjoin-at.ensures.within, c.conjoin-at.ensures.long)

pub slice_bounds-decided-end : goal.slice_bounds-decided-end
slice_bounds-decided-end c =
    search (rules, c.conjoin-at.ensures.within, c.conjoin-at.ensures.long)

pub decided-requires : goal.decided-requires
decided-requires c =
    search (rules, c.requires)

pub returns : goal.returns
returns c =
    let fs = chosen c.args.taken (held c.args.formulas.now) in
    let d =
    decided_of (rest-is c.conjoin-at.new.out c.conjoin-at.result (search (rules, c.conjoin-at.ensures.long)) ∙ c.conjoin-at.ensures.is)
    c.decided.ensures in record {
      told = attempted-said fs c.args.node_capacity c.args.profile_capacity c.requires.lends d
          (conjoins_some 776 c.conjoin-at.ensures (search rules) c.if-at-eq-CONJUNCTION.false)
          c.attempt_of.ensures;
      kept = decided_stays fs c.args.node_capacity c.args.profile_capacity c.requires.lends d c.requires.clear;
    }
