-- `Text::numeral` ends: the measure is the number and the width together. Assumes nothing.
use Rattle.std.proofs.Common.{◌+◌}
use Rattle.text.proofs.Text.+numeral.Given as goal

abbrev pub decreases-numeral : goal.decreases-numeral
decreases-numeral l = l.n + l.width
