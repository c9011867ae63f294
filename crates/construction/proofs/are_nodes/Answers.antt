-- `construction::are_nodes` works the nodes out over zeros of its own, counts them and compares the bytes. Where both are the same, the
-- notes of its search are those of the nodes in the area.
use Rattle.std.proofs.Common.{◌-◌, arith}
use Rattle.tableau.specs.Area.{zeros}
use Rattle.tableau.specs.Operators.{operators}
use Rattle.construction.specs.Construction.{nodes_size}
use Rattle.construction.proofs.CheckLaws.{own_zeros, check_many, check_other, check_same}
use Rattle.construction.proofs.are_nodes.Goals as goal

pub returns-in_default-clause-value : goal.returns-in_default-clause-value
returns-in_default-clause-value c =
    check_many c.args.nodes c.args.node_capacity c.args.area.now (operators c.args.t.now) c.in_default.ensures.nodes_held (omega arith)

pub returns-then-nodes-known-clause-value : goal.returns-then-nodes-known-clause-value
returns-then-nodes-known-clause-value c =
    check_same c.args.nodes c.args.node_capacity c.args.area.now (operators c.args.t.now) c.in-Some.ensures.nodes_held
    c.in-Some.ensures.fits c.if-nodes-known.true (zeros (8192 - nodes_size c.args.node_capacity))
    (own_zeros c.args.node_capacity (omega (arith, c.requires.node_room.few))) c.eq.ensures

pub returns-else-nodes-known-clause-value : goal.returns-else-nodes-known-clause-value
returns-else-nodes-known-clause-value c =
    check_other c.args.nodes c.args.node_capacity c.args.area.now (operators c.args.t.now) c.in-Some.ensures.nodes_held
    c.in-Some.ensures.fits c.if-nodes-known.false
