-- `safety::Survey::write_cycle` walks round the cycle and writes one letter a turn (`Walking`).
use Rattle.tableau.specs.Operators.{operators}
use Rattle.safety.proofs.CycleSteps.{Walking}
use Rattle.safety.proofs.Survey.write_cycle.Given as goal

abbrev pub invariant-loop-i : goal.invariant-loop-i
invariant-loop-i l =
    Walking (operators l.self.tableau.now) l.self.known l.initial.at.0 l.cycle l.start l.initial.letters l.letters l.at.0 l.i
