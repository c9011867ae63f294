-- `tableau::follow` adds the node that a step leads to, if there is one, and notes the step.
use Rattle.tableau.proofs.NodeLoop.{follow-some}
use Rattle.tableau.proofs.follow.Goals as goal

pub returns-in_err-added-clause-followed : goal.returns-in_err-added-clause-followed
returns-in_err-added-clause-followed c =
    rw c.from_residual.ensures
    (follow-some c.args.number c.in-Some.is c.letter_of.ensures c.requires.growing.room.fits c.in_err-added.ensures.node_added)

pub returns-clause-followed : goal.returns-clause-followed
returns-clause-followed c =
    follow-some c.args.number c.in-Some.is c.letter_of.ensures c.requires.growing.room.fits c.in_ok-added.ensures.node_added
