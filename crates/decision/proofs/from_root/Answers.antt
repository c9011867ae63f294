-- `decision::from_root` finds the nodes and, if there is room for them, goes on from them.
use Rattle.std.proofs.Common.{arith}
use Rattle.decision.proofs.SearchedLaws.{nodes_14, nodes-ready, root-on}
use Rattle.decision.proofs.from_root.Goals as goal

pub returns-in_default : goal.returns-in_default
returns-in_default c =
    nodes_14 c.args.t.now.formed c.requires.decoded c.requires.lends c.in_default.ensures.nodes_held (omega arith) c.args.letters.now

pub from_nodes-requires : goal.from_nodes-requires
from_nodes-requires c =
    nodes-ready c.args.t.now.formed c.requires.decoded c.requires.lends c.in-Some.ensures.nodes_held c.in-Some.ensures.fits
    c.in-Some.ensures.origins
    (omega (arith, c.requires.lends.capacity.few_nodes))

pub returns : goal.returns
returns c =
    root-on c.args.t.now.formed c.requires.decoded c.requires.lends c.in-Some.ensures.nodes_held c.in-Some.ensures.fits c.from_nodes.ensures
