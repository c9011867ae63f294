-- `safety::decide_safety` passes a refusal of reading on; else the table is that of the formula in the bytes, and is asked on.
use Rattle.std.proofs.Common.{sym, ap, ◌∙◌, Ok}
use Rattle.std.proofs.lemmas.Result.{err_from_is_err_and}
use Rattle.formula.proofs.RowLaws.{reading-held, reading-refused}
use Rattle.tableau.proofs.FormedLaws.{held-formed}
use Rattle.safety.proofs.SettleLaws.{held-decided, unread-decided}
use Rattle.safety.proofs.decide_safety.Goals as goal

pub new-t-requires : goal.new-t-requires
new-t-requires c = held-formed (reading-held c.args.bytes.now c.read.result c.read.ensures.outcome c.in_ok-read.was)

pub returns-in_err-read : goal.returns-in_err-read
returns-in_err-read c =
    let p = err_from_is_err_and c.from_residual.result c.from_residual.ensures.1 in
    rw (p.1, p.2)
    (unread-decided c.args.bytes.now c.args.node_capacity
    (reading-refused c.args.bytes.now c.read.result c.read.ensures.outcome c.in_err-read.was))

pub returns : goal.returns
returns c =
    held-decided c.args.bytes.now c.args.node_capacity
    (reading-held c.args.bytes.now c.read.result c.read.ensures.outcome (c.in_ok-read.was ∙ ap Ok (sym c.new-t.ensures)))
    c.decided.ensures
