-- `substitution::with_new`: reading refuses the new formula, or accepts it, and then the number is looked at. Assumes nothing.
use mathlib.Core.Path.{◌∙◌}
use Rattle.formula.proofs.RowLaws.{outcome-told}
use Rattle.substitution.proofs.OutcomeLaws.{read_few, new_told, new_refused}
use Rattle.substitution.proofs.with_new.Goals as goal

pub numbered-requires : goal.numbered-requires
numbered-requires c =
    let accepted = outcome-told c.args.new.now c.read.result c.read.ensures.outcome c.in-Ok.is in
    (c.requires, read_few c.args.new.now accepted)

pub returns-in-Err : goal.returns-in-Err
returns-in-Err c =
    let refused = outcome-told c.args.new.now c.read.result c.read.ensures.outcome c.in-Err.is in
    c.unread.ensures ∙ new_refused c.args.old.now c.args.t c.requires c.args.e c.args.new.now refused

pub returns-in-Ok : goal.returns-in-Ok
returns-in-Ok c =
    let accepted = outcome-told c.args.new.now c.read.result c.read.ensures.outcome c.in-Ok.is in
    c.numbered.ensures ∙ new_told c.args.old.now c.args.t c.requires c.args.e c.args.new.now accepted
