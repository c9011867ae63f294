-- `substitution::bytes_before`: one operator after another. Assumes nothing.
use mathlib.Core.Path.{sym, ap, ◌∙◌}
use native.Mathlib.Omega.{arith}
use Rattle.formula.specs.Table.{bytes_before, width}
use Rattle.formula.specs.Rows.{operators_of}
use Rattle.substitution.proofs.WidthLaws.{summed_none, summed_more}
use borrow.Author.Rules.{rules}
use Rattle.substitution.proofs.bytes_before.Goals as goal

pub loop-i-init : goal.loop-i-init
loop-i-init c =
    summed_none c.args.t.rows c.args.n

pub operator_at-requires : goal.operator_at-requires
operator_at-requires c =
    c.requires.0.placed c.loop-i.i (omega (arith, c.requires.1))

pub overflow_add-sum : goal.overflow_add-sum
overflow_add-sum c =
    search (rules, c.loop-i.invariant.small, c.loop-i.invariant.below, c.requires.0.few, c.requires.1, c.width-sum.ensures.1)

pub loop-i-preserved : goal.loop-i-preserved
loop-i-preserved c =
    summed_more c.args.t.rows c.args.n c.loop-i.invariant (omega arith)
    (c.width-sum.ensures.0 ∙ sym (ap width c.operator_at.ensures), c.width-sum.ensures.1)

pub returns : goal.returns
returns c =
    let x = operators_of c.args.t.rows 0 c.args.t.count in
    c.loop-i.invariant.is c.args.t.count c.requires.1
    ∙ ap (bytes_before x) {x = c.loop-i.i} {y = c.args.n} (omega (arith, c.loop-i.invariant.below))
