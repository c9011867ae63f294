-- `safety::from_nodes` answers by the shortest closed walk over the numbers of the nodes, if there is one.
use Rattle.std.proofs.Common.{refl}
use Rattle.safety.proofs.AnswerLaws.{ready_steps, ready-cycle, ready-noted, ready-room, told_not, told-met}
use Rattle.safety.proofs.from_nodes.Goals as goal

pub shortest-requires : goal.shortest-requires
shortest-requires c =
    ready_steps c.args.t.now.table.rows c.args.t.now.table.count c.requires.nodes_ready

pub write_course-stem-requires : goal.write_course-stem-requires
write_course-stem-requires c =
    let rows = c.args.t.now.table.rows in
    let count = c.args.t.now.table.count in
    let s = c.in-Some.ensures in
    record {
      cycle_there = ready-cycle rows count c.requires.nodes_ready s;
      stem_noted = ready-noted rows count c.requires.nodes_ready s;
      cycle_in_bounds = ready-room rows count c.requires.nodes_ready s;
    }

pub returns-in_default : goal.returns-in_default
returns-in_default c =
    told_not c.args.t.now.table.rows c.args.t.now.table.count c.requires.nodes_ready c.in_default.ensures

pub returns : goal.returns
returns c =
    told-met c.args.t.now.table.rows c.args.t.now.table.count c.requires.nodes_ready c.in-Some.ensures refl c.write_course-stem.ensures
