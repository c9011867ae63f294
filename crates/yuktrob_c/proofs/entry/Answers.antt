-- `yuktrob_c::entry`: 0 past the last subformula, else its operator and its end. Assumes nothing.
use Rattle.std.proofs.Common.{refl, subst, arith}
use Rattle.formula.specs.Table.{Operator}
use Rattle.formula.specs.Access.{Fits}
use Rattle.yuktrob_c.proofs.EntryLaws.{entry-none, entry-there}
use Rattle.yuktrob_c.proofs.entry.Goals as goal

pub returns-then-e-t : goal.returns-then-e-t
returns-then-e-t c =
    entry-none c.args.t c.args.e 0 c.if-e-t.true refl

pub operator_at-requires : goal.operator_at-requires
operator_at-requires c =
    c.requires.placed _ c.if-e-t.false

pub packed-requires : goal.packed-requires
packed-requires c = (
  subst (λ (o : Operator). Fits 48 o) c.operator_at.ensures (c.requires.placed _ c.if-e-t.false).fits,
  omega (arith, c.requires.few, c.requires.ends _ c.if-e-t.false),
)

pub returns : goal.returns
returns c =
    entry-there c.args.t c.args.e _ _ _ c.if-e-t.false c.operator_at.ensures c.end.ensures
    c.packed.ensures
