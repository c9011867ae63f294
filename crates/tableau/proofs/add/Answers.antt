-- `tableau::add` looks a word up, and puts it to the end where it is not known.
use Rattle.tableau.proofs.StepLaws.{located-number}
use Rattle.tableau.proofs.KeepLaws.{add-known}
use Rattle.tableau.proofs.SlotLaws.{stands}
use Rattle.tableau.proofs.add.Goals as goal

pub returns-in-Some-clause-node_added : goal.returns-in-Some-clause-node_added
returns-in-Some-clause-node_added c =
    let at = located-number c.args.known c.args.area.now c.args.new.set c.located.ensures c.in-Some.is in
    add-known c.args.new _ c.requires.growing.room.fits (stands c.args.known c.args.area.now c.args.new.set _ at.0 at.1)
