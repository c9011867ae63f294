-- `safety::from_root` has the search go from the root over the first 64 nodes, asks 14, and goes on from the nodes: from all, or from where
-- the search is.
use mathlib.Core.List.{List}
use Rattle.std.proofs.Common.{ℕ, ◌+◌, ◌<◌, arith}
use lib.ListN.{replicate, length-replicate}
use Rattle.relation.proofs.RelationLaws.{none_related}
use Rattle.relation.specs.Relation.{block_words}
use Rattle.tableau.specs.Steps.{StepsBefore}
use Rattle.tableau.specs.Found.{HasBlocks}
use Rattle.tableau.proofs.FoundLaws.{gone_held, gone-found, gone_steps}
use Rattle.tableau.proofs.StepLaws.{steps_start}
use Rattle.safety.proofs.SettleLaws.{gone-ready, came_14, came_on}
use borrow.Author.Rules.{rules}
use Rattle.safety.proofs.from_root.Goals as goal

-- one block has room for the transitions of the first 64 nodes, and has none
first_block : HasBlocks (replicate {A = ℕ} block_words 0) 64
first_block j h = omega (arith, length-replicate {A = ℕ} block_words 0)

first-none : (rows : List ℕ) (count : ℕ) (area : List ℕ) → StepsBefore rows count 0 1 area (replicate {A = ℕ} block_words 0)
first-none rows count area = steps_start rows count 1 area _ (none_related block_words)

pub search_from_root-requires : goal.search_from_root-requires
search_from_root-requires c =
    record {
      node_room = record {
        fits = c.requires.lent.some_nodes;
        few = c.requires.lent.few_nodes;
        enough = search rules;
      };
      capacity_in_bounds = omega (arith, c.requires.lent.few_nodes);
      in_bounds = omega arith;
    }

pub returns-in_default : goal.returns-in_default
returns-in_default c =
    let more : c.args.node_capacity < c.args.node_capacity + 1 = omega arith in
    let searched = c.in_default.ensures.searched in
    came_14 c.args.t.now.formed (searched.gone.full more c.args.area.now searched.begun) more

pub from_nodes-requires : goal.from_nodes-requires
from_nodes-requires c =
    let searched = c.in-Some.ensures.searched in
    record {
      nodes_ready = gone-ready c.args.t.now.formed searched.gone searched.begun c.in-Some.ensures.fits c.if-nodes-le64.true
          first_block (first-none _ _ _) c.requires.lent.few_nodes (search rules) (search rules) (search rules) c.requires.lent.buffer_fits;
    }

pub returns-then-nodes-le64 : goal.returns-then-nodes-le64
returns-then-nodes-le64 c =
    let searched = c.in-Some.ensures.searched in
    came_on c.args.t.now.formed (gone_held searched.gone searched.begun (λ h. c.if-nodes-le64.true)) c.in-Some.ensures.fits
    c.from_nodes.ensures

pub from_many-requires : goal.from_many-requires
from_many-requires c =
    let searched = c.in-Some.ensures.searched in
    let fits = c.in-Some.ensures.fits in
    record {
      halfway = record {
        many = omega arith;
        growing =
            record {
              room = record { fits = fits; few = c.requires.lent.few_nodes; enough = search rules };
              marked = searched.gone.marked fits;
              notes = search rules;
            };
        was = c.args.area.now;
        found = gone-found searched.gone searched.begun fits (omega arith);
        long = search rules;
        noted = gone_steps searched.gone fits (omega arith) first_block (first-none _ _ _);
        fits = c.requires.lent.buffer_fits;
      };
    }

pub returns : goal.returns
returns c =
    let searched = c.in-Some.ensures.searched in
    c.from_many.ensures c.args.area.now (gone-found searched.gone searched.begun c.in-Some.ensures.fits (omega arith))
