-- `tableau::put_root` adds the root where no node is known.
use Rattle.std.proofs.Common.{refl, rules}
use Rattle.tableau.proofs.NodeLoop.{find_begun}
use Rattle.tableau.proofs.SlotLaws.{marked-none}
use Rattle.tableau.proofs.StepLaws.{came_marked}
use Rattle.tableau.proofs.put_root.Goals as goal

pub add-requires : goal.add-requires
add-requires c =
    record {
      growing = record { room = search rules; marked = marked-none _ _ c.requires.in_bounds; notes = search rules };
      from_bound = search rules;
    }

pub returns : goal.returns
returns c =
    find_begun _ c.requires.node_room.fits refl c.add.ensures.node_added
    (came_marked 0 1 c.args.area.now c.add.result c.add.ensures.came_in)
