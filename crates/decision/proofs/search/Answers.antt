-- `decision::search` passes a refusal of reading on; else the table is that of the formula in the bytes. The questions of a search are
-- asked in their order; past 36 it goes on from the nodes in the workspace, and clears what lies behind them.
use Rattle.std.proofs.Common.{arith}
use Rattle.std.proofs.lemmas.Result.{err_from_is_err_and}
use Rattle.formula.proofs.RowLaws.{reading-held, reading-refused}
use Rattle.tableau.proofs.FormedLaws.{held-formed}
use Rattle.tableau.specs.Operators.{operators}
use Rattle.decision.specs.Verdict as definition
use Rattle.decision.specs.Contract.{kept}
use Rattle.decision.proofs.SearchedLaws.{checked-ready}
use Rattle.decision.proofs.SettleLaws.{held-searched, unread-searched, held-decoded, held_as}
use Rattle.decision.proofs.SettleLaws.{settled-early, early-keeps, settled_36, settled_resumed, search-on}
use Rattle.decision.proofs.search.Goals as goal

pub returns-in_err-read : goal.returns-in_err-read
returns-in_err-read c =
    let p = err_from_is_err_and c.from_residual.result c.from_residual.ensures.1 in
    rw (p.1, p.2)
    (unread-searched c.args.bytes.now c.args.node_capacity c.args.profile_capacity c.args.workspace.now c.args.witness.now
    (reading-refused c.args.bytes.now c.read.result c.read.ensures.outcome c.in_err-read.was) c.args.nodes)

pub new-t-requires : goal.new-t-requires
new-t-requires c = held-formed (reading-held c.args.bytes.now c.read.result c.read.ensures.outcome c.in_ok-read.was)

pub returns-in_err-ask_capacities : goal.returns-in_err-ask_capacities
returns-in_err-ask_capacities c =
    let p = err_from_is_err_and c.from_residual-in_err-ask_capacities.result c.from_residual-in_err-ask_capacities.ensures.1 in
    let no = c.in_err-ask_capacities.ensures.err in
    rw (p.1, p.2)
    (held-searched c.args.bytes.now c.args.node_capacity c.args.profile_capacity c.args.nodes
    (held_as c.args.bytes.now c.read.result c.read.ensures.outcome c.in_ok-read.was c.new-t.ensures)
    (settled-early (kept c.args.node_capacity c.args.profile_capacity) c.args.workspace.now c.args.witness.now
    (definition.search c.args.nodes c.args.node_capacity c.args.profile_capacity c.args.workspace.now
    (operators c.new-t.result)) no
    (early-keeps c.args.node_capacity c.args.profile_capacity _ c.args.workspace.now no.early)))

pub returns-then-not-are_nodes : goal.returns-then-not-are_nodes
returns-then-not-are_nodes c =
    held-searched c.args.bytes.now c.args.node_capacity c.args.profile_capacity c.args.nodes
    (held_as c.args.bytes.now c.read.result c.read.ensures.outcome c.in_ok-read.was c.new-t.ensures)
    (settled_36 c.args.nodes c.args.node_capacity c.args.profile_capacity (operators c.new-t.result)
    c.in_ok-ask_capacities.ensures.ok c.are_nodes.ensures.value c.if-not-are_nodes.true)

pub from_nodes-v-requires : goal.from_nodes-v-requires
from_nodes-v-requires c =
    let lends = c.in_ok-ask_capacities.ensures.ok in
    let yes = c.if-not-are_nodes.false in
    checked-ready c.new-t.result.formed
    (held-decoded (held_as c.args.bytes.now c.read.result c.read.ensures.outcome c.in_ok-read.was c.new-t.ensures)) lends
    c.are_nodes.ensures.value yes (c.are_nodes.ensures.origins yes) (omega (arith, lends.capacity.few_nodes))

pub returns : goal.returns
returns c =
    let t = operators c.new-t.result in
    let lends = c.in_ok-ask_capacities.ensures.ok in
    held-searched c.args.bytes.now c.args.node_capacity c.args.profile_capacity c.args.nodes
    (held_as c.args.bytes.now c.read.result c.read.ensures.outcome c.in_ok-read.was c.new-t.ensures)
    (settled_resumed c.args.node_capacity c.args.profile_capacity t lends (c.workspace_size-asked.ensures.in_range lends.capacity)
    c.args.nodes
    (search-on c.args.nodes c.args.node_capacity c.args.profile_capacity c.args.workspace.now t c.are_nodes.ensures.value
    c.if-not-are_nodes.false)
    c.from_nodes-v.ensures c.clear.ensures)
