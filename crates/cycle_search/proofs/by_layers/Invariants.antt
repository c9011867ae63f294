-- `cycle_search::by_layers` looks for an accepting profile in one layer after another. The invariant (`Searching`): the store has all
-- layers up to this one, and none before it has an accepting profile.
use Rattle.std.proofs.Common.{◌+◌, ◌-◌}
use Rattle.base.specs.Bits.{bit}
use Rattle.cycle_search.specs.Layers.{accepts}
use Rattle.cycle_search.proofs.SearchLaws.{Searching}
use Rattle.cycle_search.proofs.by_layers.Given as goal

abbrev pub invariant-loop-from : goal.invariant-loop-from
invariant-loop-from l =
    Searching (accepts (bit l.mask) l.store.n) l.store l.singles l.initial.area l.area l.from l.all

abbrev pub decreases-loop-from : goal.decreases-loop-from
decreases-loop-from l = l.store.capacity + 1 - l.from
