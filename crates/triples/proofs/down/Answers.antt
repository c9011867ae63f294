-- `triples::down` puts under each priority all smaller ones: three shifts reach all eight.
use Rattle.std.proofs.Common.{refl, ◌/◌, arith, bit_or}
use Rattle.triples.proofs.ByteLaws.{down_bits}
use Rattle.triples.proofs.down.Goals as goal

pub returns : goal.returns
returns c = down_bits c.args.w (omega arith) (bit_or c.args.w (c.args.w / 2))
    (bit_or (bit_or c.args.w (c.args.w / 2)) (bit_or c.args.w (c.args.w / 2) / 4)) refl refl
