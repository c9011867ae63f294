-- `triples::joined` fills a table row by row. The invariant: the rows passed are joined.
use Rattle.std.proofs.Common.{arith, rules, replicate}
use Rattle.std.proofs.Math.ListN.{get_or-replicate}
use Rattle.triples.proofs.JoinLaws.{joined-more, joined-all}
use Rattle.triples.proofs.joined.Goals as goal

pub loop-f-init : goal.loop-f-init
loop-f-init c = (search rules, λ f x g h. absurd (omega arith))

pub loop-f-preserved : goal.loop-f-preserved
loop-f-preserved c = (
  search rules,
  joined-more c.args.n c.args.a.now c.args.b.now c.loop-f.t (replicate 12 0) c.joined_row-row.result _ c.loop-f.f (omega arith)
      c.loop-f.invariant.1 (λ g h. get_or-replicate 12 g 0 0 h) c.joined_row-row.ensures c.put_row.ensures,
)

pub returns : goal.returns
returns c =
    joined-all c.args.n c.args.a.now c.args.b.now c.loop-f.t
    (λ f x g h. c.loop-f.invariant.1 f x g (omega arith))
