-- `profile_search::begin_before` halves the records between those that are known to begin before the node and those that are known not to.
use Rattle.std.proofs.Common.{◌-◌}
use Rattle.profile_search.proofs.RisingLaws.{Halved}
use Rattle.profile_search.proofs.begin_before.Given as goal

abbrev pub invariant-loop-low : goal.invariant-loop-low
invariant-loop-low l = Halved l.store l.area l.singles l.node.0 l.low l.high

abbrev pub decreases-loop-low : goal.decreases-loop-low
decreases-loop-low l = l.high - l.low
