-- `construction::ask_room` asks 11, 12 and 14 as the definition does. The nodes are searched over zeros, so that zeros stand behind the
-- last; where they have no room, zeros are all that is left.
use Rattle.std.proofs.Common.{arith}
use Rattle.tableau.specs.Operators.{operators}
use Rattle.construction.proofs.BuildLaws.{range-granted, range-refused, settled_11, settled_12, settled_14, settled-built}
use Rattle.construction.proofs.ask_room.Goals as goal

pub returns-then-not-between : goal.returns-then-not-between
returns-then-not-between c =
    settled_11 c.args.node_capacity c.args.workspace.now (operators c.args.t.now)
    (range-refused c.args.node_capacity c.between.ensures c.if-not-between.true)

pub overflow_mul-asked : goal.overflow_mul-asked
overflow_mul-asked c = omega (arith, (range-granted c.args.node_capacity c.between.ensures c.if-not-between.false).1)

pub returns-then-workspace-asked : goal.returns-then-workspace-asked
returns-then-workspace-asked c =
    settled_12 c.args.node_capacity c.args.workspace.now (operators c.args.t.now)
    (range-granted c.args.node_capacity c.between.ensures c.if-not-between.false) c.if-workspace-asked.true

pub returns-in_default : goal.returns-in_default
returns-in_default c =
    settled_14 c.args.node_capacity c.args.workspace.now (operators c.args.t.now)
    (range-granted c.args.node_capacity c.between.ensures c.if-not-between.false) c.if-workspace-asked.false
    c.clear.ensures c.in_default.ensures.nodes_held (omega arith) c.clear-in_default.ensures

pub returns : goal.returns
returns c =
    settled-built c.args.node_capacity c.args.workspace.now (operators c.args.t.now)
    (range-granted c.args.node_capacity c.between.ensures c.if-not-between.false) c.if-workspace-asked.false
    c.clear.ensures c.in-Some.ensures.nodes_held c.in-Some.ensures.fits
