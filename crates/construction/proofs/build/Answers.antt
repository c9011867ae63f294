-- `construction::build` passes a refusal of reading on; else the table is that of the formula in the bytes, and its nodes are built.
use Rattle.std.proofs.lemmas.Result.{err_from_is_err_and}
use Rattle.formula.proofs.RowLaws.{reading-held, reading-refused}
use Rattle.tableau.proofs.FormedLaws.{held-formed}
use Rattle.construction.proofs.BuildLaws.{held_constructed, unread_constructed}
use Rattle.construction.proofs.build.Goals as goal

pub returns-in_err-read : goal.returns-in_err-read
returns-in_err-read c =
    let p = err_from_is_err_and c.from_residual.result c.from_residual.ensures.1 in
    rw (p.1, p.2)
    (unread_constructed c.args.bytes.now c.args.node_capacity c.args.workspace.now
    (reading-refused c.args.bytes.now c.read.result c.read.ensures.outcome c.in_err-read.was))

pub new-t-requires : goal.new-t-requires
new-t-requires c =
    held-formed (reading-held c.args.bytes.now c.read.result c.read.ensures.outcome c.in_ok-read.was)

pub returns : goal.returns
returns c =
    held_constructed c.args.bytes.now c.args.node_capacity c.args.workspace.now
    (reading-held c.args.bytes.now c.read.result c.read.ensures.outcome c.in_ok-read.was)
    (rw c.new-t.ensures at c.ask_room.ensures)
