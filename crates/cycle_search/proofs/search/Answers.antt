-- `cycle_search::search` goes on by layers from the profiles of one transition, if there is room for them. These are chained and stand by
-- rising first node, as the search asks, and its test by the mask of the least fixpoints is the definition's.
use Rattle.std.proofs.Common.{arith}
use Rattle.base.specs.Bits.{bit}
use Rattle.tableau.specs.Operators.{operators}
use Rattle.profile_tables.specs.Runs.{accepting}
use Rattle.profile_search.specs.Singles.{nodes_in}
use Rattle.profile_search.proofs.RisingLaws.{singles-rising}
use Rattle.cycle_search.proofs.AcceptingLaws.{accepts-same}
use Rattle.cycle_search.proofs.SearchLaws.{none-fits, comes_same}
use Rattle.cycle_search.proofs.search.Goals as goal

pub returns-in_err-singles-clause-comes_to : goal.returns-in_err-singles-clause-comes_to
returns-in_err-singles-clause-comes_to c =
    rw c.from_residual.ensures
    (none-fits (accepting (operators c.args.ranked.now.tableau.now)) c.in_err-singles.ensures (omega arith))

pub by_layers-requires-clause-rising : goal.by_layers-requires-clause-rising
by_layers-requires-clause-rising c =
    singles-rising (operators c.args.ranked.now.tableau.now)
    (nodes_in c.args.ranked.now.tableau.now.table.count c.args.area.now c.args.nodes)
    c.in_ok-singles.ensures.1 c.in_ok-singles.ensures.0

pub returns-clause-comes_to : goal.returns-clause-comes_to
returns-clause-comes_to c =
    comes_same
    (λ x. accepts-same (operators c.args.ranked.now.tableau.now) c.args.store.n (bit c.least_mask-mask.result) x
    c.requires.nexts c.least_mask-mask.ensures)
    (c.in_ok-singles.ensures.1.records c.in_ok-singles.ensures.0) c.by_layers.ensures.comes_to
