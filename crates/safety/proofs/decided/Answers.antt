-- `safety::decided` asks 43, then 11 to 13, and then 14 and what comes behind; what the nodes were in is cleared.
use Rattle.std.proofs.Common.{arith}
use Rattle.std.proofs.lemmas.Result.{err_from_is_err_and}
use Rattle.tableau.specs.Operators.{operators}
use Rattle.safety.proofs.SettleLaws.{settled_43, settled-short, settled_on}
use Rattle.safety.proofs.decided.Goals as goal

pub overflow_mul-node_capacity : goal.overflow_mul-node_capacity
overflow_mul-node_capacity c = let lent = c.in_ok-ask_room.ensures in omega (arith, lent.few_nodes)

pub returns-in-Some : goal.returns-in-Some
returns-in-Some c =
    settled_43 c.args.node_capacity (operators c.args.t.now) c.args.workspace.now c.args.witness.now
    c.first_least.ensures c.in-Some.is

pub returns-in_err-ask_room : goal.returns-in_err-ask_room
returns-in_err-ask_room c =
    let p = err_from_is_err_and c.from_residual.result c.from_residual.ensures.1 in
    rw (p.1, p.2)
    (settled-short c.args.node_capacity (operators c.args.t.now) c.args.workspace.now c.args.witness.now
    c.first_least.ensures c.in_default.is c.in_err-ask_room.ensures)

pub returns : goal.returns
returns c =
    settled_on c.args.node_capacity (operators c.args.t.now) c.args.workspace.now c.args.witness.now
    c.first_least.ensures c.in_default.is c.in_ok-ask_room.ensures c.from_root-v.ensures c.clear.ensures
