-- `substitution::span_of`: the bytes of the operators before the subformula, and of those before its end. Assumes nothing.
use mathlib.Core.Path.{ap, ◌∙◌}
use native.Mathlib.Omega.{arith}
use Rattle.formula.specs.Rows.{operators_of}
use Rattle.formula.specs.Table.{bytes_before}
use Rattle.substitution.proofs.WidthLaws.{end_stored}
use Rattle.substitution.proofs.span_of.Goals as goal

pub end-end-requires : goal.end-end-requires
end-end-requires c =
    omega (arith, c.requires.0.few, c.requires.1)

pub bytes_before-requires : goal.bytes_before-requires
bytes_before-requires c =
    (c.requires.0, omega (arith, c.requires.1))

pub bytes_before-requires-2 : goal.bytes_before-requires-2
bytes_before-requires-2 c =
    (c.requires.0, omega (arith, c.end-end.ensures, c.requires.0.ends c.args.e c.requires.1))

pub returns : goal.returns
returns c =
    let x = operators_of c.args.t.rows 0 c.args.t.count in
    let end = c.end-end.ensures ∙ end_stored c.args.t c.args.e c.requires.1 in
    (c.bytes_before.ensures, c.bytes_before-2.ensures ∙ ap (bytes_before x) end)
