-- `cycle_search::by_layers` looks for an accepting profile in one layer after another. The invariant (`Searching`): the store has all
-- layers up to this one, and none before it has an accepting profile.
use Rattle.std.proofs.Common.{arith}
use Rattle.cycle_search.proofs.SearchLaws.{search-start, search-found, search-next, search-full, search_end}
use Rattle.cycle_search.proofs.by_layers.Goals as goal

pub loop-from-init : goal.loop-from-init
loop-from-init c = search-start _ _ _ _ c.requires.store_chained

pub returns-in-Some-clause-comes_to : goal.returns-in-Some-clause-comes_to
returns-in-Some-clause-comes_to c = search-found _ _ _ _ c.loop-from.invariant c.in-Some.ensures

pub returns-in_err-more-clause-comes_to : goal.returns-in_err-more-clause-comes_to
returns-in_err-more-clause-comes_to c =
    rw c.from_residual.ensures
    (search-full _ _ _ _ c.loop-from.invariant c.in_default.ensures c.in_err-more.ensures (omega arith))

pub loop-from-preserved : goal.loop-from-preserved
loop-from-preserved c =
    search-next _ _ _ _ c.loop-from.invariant c.in_default.ensures c.in_ok-more.ensures.1 c.in_ok-more.ensures.0

pub returns-clause-comes_to : goal.returns-clause-comes_to
returns-clause-comes_to c = search_end _ _ _ _ c.loop-from.invariant (omega arith)
