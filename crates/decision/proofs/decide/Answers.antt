-- `decision::decide` passes a refusal of reading on; else the table is that of the formula in the bytes. The questions are asked in their
-- order, and what the searches used is cleared.
use Rattle.std.proofs.lemmas.Result.{err_from_is_err_and}
use Rattle.formula.proofs.RowLaws.{reading-held, reading-refused}
use Rattle.tableau.proofs.FormedLaws.{held-formed}
use Rattle.tableau.specs.Operators.{operators}
use Rattle.decision.specs.Verdict.{decide}
use Rattle.decision.specs.Contract.{cleared}
use Rattle.decision.proofs.SettleLaws.{held-decided, unread-decided, held-decoded, held_as, settled-early, early_clears, settled-decided}
use Rattle.decision.proofs.decide.Goals as goal

pub returns-in_err-read : goal.returns-in_err-read
returns-in_err-read c =
    let p = err_from_is_err_and c.from_residual.result c.from_residual.ensures.1 in
    rw (p.1, p.2)
    (unread-decided c.args.bytes.now c.args.node_capacity c.args.profile_capacity c.args.workspace.now c.args.witness.now
    (reading-refused c.args.bytes.now c.read.result c.read.ensures.outcome c.in_err-read.was))

pub new-t-requires : goal.new-t-requires
new-t-requires c = held-formed (reading-held c.args.bytes.now c.read.result c.read.ensures.outcome c.in_ok-read.was)

pub returns-in_err-ask_capacities : goal.returns-in_err-ask_capacities
returns-in_err-ask_capacities c =
    let p = err_from_is_err_and c.from_residual-in_err-ask_capacities.result c.from_residual-in_err-ask_capacities.ensures.1 in
    let no = c.in_err-ask_capacities.ensures.err in
    rw (p.1, p.2)
    (held-decided c.args.bytes.now c.args.node_capacity c.args.profile_capacity
    (held_as c.args.bytes.now c.read.result c.read.ensures.outcome c.in_ok-read.was c.new-t.ensures)
    (settled-early (cleared c.args.node_capacity c.args.profile_capacity) c.args.workspace.now c.args.witness.now
    (decide c.args.node_capacity c.args.profile_capacity (operators c.new-t.result)) no
    (early_clears c.args.node_capacity c.args.profile_capacity _ c.args.workspace.now no.early)))

pub from_root-v-requires-clause-decoded : goal.from_root-v-requires-clause-decoded
from_root-v-requires-clause-decoded c =
    held-decoded (held_as c.args.bytes.now c.read.result c.read.ensures.outcome c.in_ok-read.was c.new-t.ensures)

pub returns : goal.returns
returns c =
    let lends = c.in_ok-ask_capacities.ensures.ok in
    held-decided c.args.bytes.now c.args.node_capacity c.args.profile_capacity
    (held_as c.args.bytes.now c.read.result c.read.ensures.outcome c.in_ok-read.was c.new-t.ensures)
    (settled-decided c.args.node_capacity c.args.profile_capacity (operators c.new-t.result) lends
    (c.workspace_size-asked.ensures.in_range lends.capacity) c.from_root-v.ensures c.clear.ensures)
