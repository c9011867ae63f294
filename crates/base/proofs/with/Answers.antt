-- `base::with` changes one bit: set by or, cleared by xor where it is set.
use Rattle.std.proofs.Common.{sym, ◌∙◌}
use Rattle.base.proofs.BitLaws.{set_on, set_off}
use Rattle.base.proofs.with.Goals as goal

pub returns-then-on : goal.returns-then-on
returns-then-on c =
    rw (c.power.ensures, c.if-on.true) (set_on c.args.word c.args.e)

pub returns-then-has : goal.returns-then-has
returns-then-has c =
    let off = c.if-on.false in
    let has = sym c.has.ensures ∙ c.if-has.true in
    rw (c.power-then-has.ensures, off) (set_off c.args.word c.args.e has)
