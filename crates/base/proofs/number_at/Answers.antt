-- `base::number_at` reads from the highest byte down: each turn is one byte more (`ReadingBytes`).
use Rattle.std.proofs.Common.{◌+◌, ◌-◌, ◌<◌, arith}
use Rattle.base.proofs.BytesLaws.{read_fits, read_more}
use Rattle.base.proofs.number_at.Goals as goal

-- the byte that is read
byte_small : (c : goal.After-from) → c.from.result < 256
byte_small c = omega (arith, c.from.ensures, c.type_inv.area (c.args.at + (c.loop-i.i - 1)))

pub overflow_mul-x : goal.overflow_mul-x
overflow_mul-x c =
    omega (arith, read_fits _ _ _ c.loop-i-test.true c.requires.width_bound c.loop-i.invariant)

pub overflow_add-x : goal.overflow_add-x
overflow_add-x c =
    omega (arith, byte_small c, read_fits _ _ _ c.loop-i-test.true c.requires.width_bound c.loop-i.invariant)

pub loop-i-preserved : goal.loop-i-preserved
loop-i-preserved c = read_more _ _ _ c.loop-i-test.true c.from.ensures (byte_small c) c.loop-i.invariant
