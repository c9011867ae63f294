-- `triples::joined_row` adds to a row the triples of another one joined with b. The invariant: it has those by way of the operands passed.
use Rattle.std.proofs.Common.{refl}
use Rattle.triples.specs.Inner.{bytes_from}
use Rattle.triples.proofs.JoinLaws.{row_stays, row-way}
use Rattle.triples.proofs.joined_row.Goals as goal

pub loop-m-init : goal.loop-m-init
loop-m-init c = row_stays c.args.row 12 _ (λ x g h l. refl)

pub loop-m-preserved : goal.loop-m-preserved
loop-m-preserved c =
    row-way (bytes_from c.args.a.now c.args.at) c.args.b.now c.args.row c.loop-m.r c.with_way-more.result c.loop-m.m c.loop-m.invariant
    c.with_way-more.ensures
