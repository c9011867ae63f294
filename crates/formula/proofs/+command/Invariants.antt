-- `formula::command` reads an operator with all its operands as the definition does. Each call has fewer bytes left. Assumes nothing.
use Rattle.std.proofs.Common.{◌-◌, length}
use Rattle.formula.proofs.+command.Given as goal

abbrev pub decreases-command : goal.decreases-command
decreases-command l = length l.s.now - l.h.at
