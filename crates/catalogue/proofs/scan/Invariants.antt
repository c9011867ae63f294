-- `catalogue::scan`: before each turn, no record so far had the number, so the records from here on come to what the catalogue comes to.
-- Each record takes four bytes or more, so the bytes left fall. Assumes nothing.
use Rattle.std.proofs.Common.{◌-◌, length}
use Rattle.catalogue.proofs.ScanLaws.{Scanning}
use Rattle.catalogue.proofs.scan.Given as goal

abbrev pub invariant-loop-r : goal.invariant-loop-r
invariant-loop-r l = Scanning l.catalogue l.number l.at l.least

abbrev pub decreases-loop-r : goal.decreases-loop-r
decreases-loop-r l = length l.catalogue - l.at
