-- `substitution::replaced`: what reading says of the prefix of the spliced bytes is what it says of all of them. Assumes nothing.
use mathlib.Core.Path.{◌∙◌}
use Rattle.formula.proofs.RowLaws.{outcome-told}
use Rattle.substitution.proofs.OutcomeLaws.{as_readable, spans, accepted_as, prefix_fits, prefix_count}
use Rattle.substitution.proofs.OutcomeLaws.{prefix_refused, prefix_accepted}
use Rattle.substitution.proofs.replaced.Goals as goal

pub span_of-requires : goal.span_of-requires
span_of-requires c = (as_readable c.requires.0, c.requires.1)

pub splice-count-requires : goal.splice-count-requires
splice-count-requires c =
    spans c.args.old.now c.args.t c.requires.0 c.args.e c.args.new.now c.span_of.ensures c.requires.1 c.requires.2

pub slice_bounds-bytes-end : goal.slice_bounds-bytes-end
slice_bounds-bytes-end c = prefix_fits c.splice-count.ensures

pub slice_bounds-read-end : goal.slice_bounds-read-end
slice_bounds-read-end c = prefix_count c.splice-count.ensures

pub returns-in-Err : goal.returns-in-Err
returns-in-Err c =
    c.unread.ensures
    ∙ prefix_refused c.args.old.now c.args.t c.requires.0 c.args.e c.args.new.now c.span_of.ensures
    c.splice-count.ensures
    (outcome-told _ c.read.result c.read.ensures.outcome c.in-Err.is)

pub returns-in-Ok : goal.returns-in-Ok
returns-in-Ok c =
    prefix_accepted c.args.old.now c.args.t c.requires.0 c.args.e c.args.new.now c.span_of.ensures
    c.splice-count.ensures
    (accepted_as _ c.read.result c.read.ensures.outcome c.read.ensures.determined c.in-Ok.is)
