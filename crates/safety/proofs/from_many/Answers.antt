-- `safety::from_many` goes on with the search, where the relation has all blocks; asks 14; and goes on from the nodes.
use Rattle.std.proofs.Common.{ℕ, ◌+◌, ◌<◌, arith}
use lib.ListN.{length-replicate}
use Rattle.relation.proofs.RelationLaws.{none_related}
use Rattle.relation.specs.Relation.{relation_words}
use Rattle.tableau.proofs.FoundLaws.{gone_held}
use Rattle.tableau.proofs.StepLaws.{steps_widened}
use Rattle.safety.proofs.SettleLaws.{gone-ready, came_14, came_on}
use borrow.Author.Rules.{rules}
use Rattle.safety.proofs.from_many.Goals as goal

pub widen-requires : goal.widen-requires
widen-requires c =
    record {
      small_len = c.requires.halfway.long;
      large_len = length-replicate {A = ℕ} relation_words 0;
      unrelated = none_related relation_words;
    }

pub go_on-requires : goal.go_on-requires
go_on-requires c =
    record {
      from_le_to = (omega (arith, c.requires.halfway.many, c.requires.halfway.growing.room.fits), c.requires.halfway.many);
      growing = c.requires.halfway.growing;
    }

pub returns-in_default : goal.returns-in_default
returns-in_default c =
    let more : c.args.node_capacity < c.args.node_capacity + 1 = omega arith in
    λ a f. came_14 c.args.t.now.formed (c.in_default.ensures.gone_on.full more a f) more

pub from_nodes-requires : goal.from_nodes-requires
from_nodes-requires c =
    let half = c.requires.halfway in
    let fits = c.in-Some.ensures.fits in
    record {
      nodes_ready = gone-ready c.args.t.now.formed c.in-Some.ensures.gone_on half.found fits fits (λ j h. omega arith)
          (steps_widened c.widen.ensures half.noted) half.growing.room.few (search rules) (search rules) (search rules) half.fits;
    }

pub returns : goal.returns
returns c =
    λ a f. came_on c.args.t.now.formed (gone_held c.in-Some.ensures.gone_on f (λ h. h)) c.in-Some.ensures.fits c.from_nodes.ensures
