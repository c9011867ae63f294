-- `catalogue::passed`: before each turn, the records from here on come to an end, or to a fault, as those from the first on. Each record
-- takes four bytes or more, so the bytes left fall. Assumes nothing.
use Rattle.std.proofs.Common.{◌-◌, length}
use Rattle.catalogue.proofs.ScanLaws.{Passing}
use Rattle.catalogue.proofs.passed.Given as goal

abbrev pub invariant-loop-r : goal.invariant-loop-r
invariant-loop-r l = Passing l.catalogue l.initial.at l.initial.above l.at l.above

abbrev pub decreases-loop-r : goal.decreases-loop-r
decreases-loop-r l = length l.catalogue - l.at
