-- `substitution::numbered`: the number is below how many subformulas there are, or not. Assumes nothing.
use mathlib.Core.Path.{◌∙◌}
use native.Mathlib.Omega.{arith}
use Rattle.substitution.proofs.OutcomeLaws.{number-there, number-missing}
use Rattle.substitution.proofs.numbered.Goals as goal

pub replaced-requires : goal.replaced-requires
replaced-requires c =
    (c.requires.0, omega arith, c.requires.1)

pub returns-then-e-t : goal.returns-then-e-t
returns-then-e-t c =
    c.replaced.ensures ∙ number-there c.args.old.now c.args.t c.requires.0 c.args.e c.args.new.now (omega arith)

pub returns : goal.returns
returns c =
    c.refused.ensures ∙ number-missing c.args.old.now c.args.t c.requires.0 c.args.e c.args.new.now (omega arith)
