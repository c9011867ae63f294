-- `triples::with_way` adds to a row, column by column, the smaller ones of x and row m of b: there are none where x is empty. The
-- invariant: the columns passed have them, and all else is as it was.
use Rattle.std.proofs.Common.{arith, rules}
use Rattle.std.proofs.Math.ListN.{length-set}
use Rattle.triples.proofs.ByteLaws.{none-smaller, or_bits}
use Rattle.triples.proofs.JoinLaws.{row_stays, row-store}
use Rattle.triples.proofs.with_way.Goals as goal

pub returns-then-x-eq0 : goal.returns-then-x-eq0
returns-then-x-eq0 c = row_stays c.args.row 12 _ (λ k g h l. none-smaller c.args.x _ k c.if-x-eq0.true)

pub loop-g-init : goal.loop-g-init
loop-g-init c = (search rules, row_stays c.args.row 0 _ (λ k g h l. absurd (omega arith)))

pub loop-g-preserved : goal.loop-g-preserved
loop-g-preserved c = (
  simp length-set c.loop-g.invariant.0,
  row-store c.args.row c.loop-g.r c.loop-g.g _ _ (omega arith) c.loop-g.invariant.1 (or_bits _ c.minima.result _ c.minima.ensures),
)
