-- `substitution::substitute`: the old formula is read first. Assumes nothing.
use mathlib.Core.Path.{◌∙◌}
use Rattle.formula.proofs.RowLaws.{outcome-told}
use Rattle.substitution.proofs.OutcomeLaws.{accepted_as, old_told}
use Rattle.substitution.proofs.substitute.Goals as goal

pub with_new-requires : goal.with_new-requires
with_new-requires c =
    accepted_as c.args.old.now c.read.result c.read.ensures.outcome c.read.ensures.determined c.in-Ok.is

pub returns-in-Err : goal.returns-in-Err
returns-in-Err c =
    c.unread.ensures
    ∙ old_told c.args.old.now c.args.e c.args.new.now (outcome-told c.args.old.now c.read.result c.read.ensures.outcome c.in-Err.is)

pub returns-in-Ok : goal.returns-in-Ok
returns-in-Ok c =
    c.with_new.ensures
    ∙ old_told c.args.old.now c.args.e c.args.new.now
    (outcome-told c.args.old.now c.read.result c.read.ensures.outcome c.in-Ok.is)
