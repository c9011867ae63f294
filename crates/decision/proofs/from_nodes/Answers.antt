-- `decision::from_nodes` searches the profiles behind the nodes that are there. What that comes to and the notes of the nodes are all that
-- the answer is made from.
use Rattle.std.proofs.Common.{refl, arith}
use Rattle.decision.proofs.SearchedLaws.{given, answer-ready, answer-on}
use Rattle.decision.proofs.from_nodes.Goals as goal

pub store-store-requires-clause-n_bound : goal.store-store-requires-clause-n_bound
store-store-requires-clause-n_bound c =
    omega (arith, c.ranked-ranks.ensures.nexts_are, c.requires.decoded.limited.few_nexts)

pub search-requires : goal.search-requires
search-requires c = given (record {
  ready = c.requires;
  ranks = c.ranked-ranks.ensures;
  store_is = c.store-store.ensures;
})

pub returns-in_default : goal.returns-in_default
returns-in_default c =
    answer-on (record {
      ready = c.requires;
      ranks = c.ranked-ranks.ensures;
      store_is = c.store-store.ensures;
    }) c.in_default.ensures.comes_to c.in_default.ensures.bytes_between (refl, refl)

pub answered-requires : goal.answered-requires
answered-requires c =
    answer-ready (record {
      ready = c.requires;
      ranks = c.ranked-ranks.ensures;
      store_is = c.store-store.ensures;
    }) c.in-Some.ensures.comes_to c.in-Some.ensures.bytes_between

pub returns : goal.returns
returns c =
    answer-on (record {
      ready = c.requires;
      ranks = c.ranked-ranks.ensures;
      store_is = c.store-store.ensures;
    }) c.in-Some.ensures.comes_to c.in-Some.ensures.bytes_between c.answered.ensures
