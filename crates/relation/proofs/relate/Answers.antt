-- `relation::relate` puts one bit into one word.
use Rattle.std.proofs.Common.{arith}
use Rattle.relation.proofs.RelationLaws.{related_more}
use Rattle.relation.proofs.relate.Goals as goal

pub returns : goal.returns
returns c =
    let a = c.args in
    related_more a.relation.now a.to a.from c.with-word.result c.requires.to_bound.0 c.requires.to_bound.1
    (omega (arith, c.requires.to_bound.0, c.requires.has_block)) c.with-word.ensures
