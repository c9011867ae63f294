-- `safety::Survey::reached` looks up where a transition leads, and compares one element.
use Rattle.tableau.proofs.StepLaws.{located_absent}
use Rattle.safety.proofs.StepLaws.{reached_absent}
use Rattle.safety.proofs.Survey.reached.Goals as goal

pub returns-in_err-n : goal.returns-in_err-n
returns-in_err-n c =
    rw c.from_residual-in_err-n.ensures
    (reached_absent c.args.self.now.steps.now c.requires.there c.args.far c.in_ok-to.was
    (located_absent c.args.self.now.known c.args.self.now.area.now _ c.located.ensures c.in_err-n.was))
