-- `formula::read_at` reads a whole formula that begins at a byte: what it returns is the definition of reading from there, by whether the
-- command at that byte was read and whether the bytes end behind it. Assumes nothing.
use Rattle.std.proofs.lemmas.Result.{err_from_is_err_and}
use Rattle.formula.proofs.CodeWhole.{refused-reading, extra_reading, accepted-reading}
use Rattle.formula.proofs.read_at.Goals as goal

pub returns-in_err-h : goal.returns-in_err-h
returns-in_err-h c =
    let (why, is, same) = err_from_is_err_and c.from_residual.result c.from_residual.ensures.1 in
    rw (is, same) (refused-reading c.args.s.now c.args.at c.in_err-h.ensures)

pub returns-then-h-s : goal.returns-then-h-s
returns-then-h-s c = rw c.at.ensures (extra_reading c.args.s.now c.args.at _ _ c.in_ok-h.ensures c.if-h-s.true)

pub returns : goal.returns
returns c = accepted-reading c.args.s.now c.args.at _ _ c.in_ok-h.ensures c.if-h-s.false
