-- `formula::opcode_at` answers the questions 1 to 4: each return has the answer of one of them, and the last the opcode. Assumes nothing.
use Rattle.std.proofs.Common.{sym, ◌∙◌, rules}
use Rattle.std.proofs.lemmas.Result.{err_from_is_err_and, IfErr-at_err, IfOk-at_ok}
use Rattle.formula.proofs.CodeQuestions.{none_left, no_opcode, decoded-opcode, no_room}
use Rattle.formula.proofs.opcode_at.Goals as goal

pub returns-in_err-byte : goal.returns-in_err-byte
returns-in_err-byte c =
    let (why, is, same) = err_from_is_err_and c.from_residual.result c.from_residual.ensures.1 in
    rw (is, same) (none_left c.args.s.now c.args.h _ c.in_err-byte.ensures)

pub returns-in_err-op : goal.returns-in_err-op
returns-in_err-op c =
    let (why, is, same) = err_from_is_err_and c.from_residual-in_err-op.result c.from_residual-in_err-op.ensures.1 in
    rw (is, same)
    (IfErr-at_err _ c.in_err-op.was
    (no_opcode _ _ c.map_err.result c.args.s.now c.args.h c.in_ok-byte.ensures (λ fault why q. search rules) c.try_from.result
    c.try_from.ensures c.map_err.ensures.cases))

pub returns-then-not-within : goal.returns-then-not-within
returns-then-not-within c =
    let full = c.if-not-within.true in
    let is = decoded-opcode _ _ c.map_err.result c.try_from.result c.try_from.ensures c.map_err.ensures.cases in
    rw c.at-then-not-within.ensures
    (no_room c.args.s.now c.args.h c.in_ok-op.op c.in_ok-byte.ensures (IfOk-at_ok _ c.in_ok-op.was is) c.if-h-ge48.false
    (sym (c.within.ensures c.args.s.now) ∙ full))
