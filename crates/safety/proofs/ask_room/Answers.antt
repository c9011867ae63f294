-- `safety::ask_room` asks 11 to 13 as the definition does.
use native.Mathlib.Omega.{arith}
use Rattle.construction.proofs.BuildLaws.{range-granted}
use Rattle.safety.proofs.SettleLaws.{short_11, short_12, short_13, granted}
use Rattle.safety.proofs.ask_room.Goals as goal

pub returns-then-not-between : goal.returns-then-not-between
returns-then-not-between c =
    short_11 c.args.node_capacity c.args.workspace c.args.witness c.between.ensures c.if-not-between.true

pub overflow_mul-node_capacity : goal.overflow_mul-node_capacity
overflow_mul-node_capacity c =
    omega (arith, (range-granted c.args.node_capacity c.between.ensures c.if-not-between.false).1)

pub returns-then-workspace-node_capacity : goal.returns-then-workspace-node_capacity
returns-then-workspace-node_capacity c =
    short_12 c.args.node_capacity c.args.workspace c.args.witness c.between.ensures c.if-not-between.false c.if-workspace-node_capacity.true

pub returns-then-witness-node_capacity : goal.returns-then-witness-node_capacity
returns-then-witness-node_capacity c =
    short_13 c.args.node_capacity c.args.workspace c.args.witness c.between.ensures
    c.if-not-between.false c.if-workspace-node_capacity.false
    c.if-witness-node_capacity.true

pub returns : goal.returns
returns c =
    granted c.args.node_capacity c.args.workspace c.args.witness c.between.ensures
    c.if-not-between.false c.if-workspace-node_capacity.false
    c.if-witness-node_capacity.false
