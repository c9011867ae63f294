-- `Graph::distances` goes from level to level (`Search`) until the searched vertex is met again, a level is empty, or the bound is reached.
use Rattle.std.proofs.Common.{◌<◌, arith}
use Rattle.distances.proofs.SetLaws.{unnoted, has_of, has_not}
use Rattle.distances.proofs.WalkLaws.{walk_covered, rows_of, in_blocks}
use Rattle.distances.proofs.SearchLaws.{search_from, found, search-next, ends}
use Rattle.distances.proofs.Graph.distances.Goals as goal

pub loop-far-init : goal.loop-far-init
loop-far-init c =
    let small : c.args.to < 1024 = omega (arith, c.args.self.now.steps.few, c.requires.0) in
    search_from c.args.to small c.power.ensures (unnoted (c.fill.ensures.after (λ y same. same)) c.told-steps)

pub expand-requires : goal.expand-requires
expand-requires c =
    let graph = c.args.self.now in
    λ x level.
    walk_covered (rows_of graph.steps graph.all_blocks) (in_blocks graph.all_blocks c.requires.0)
    (c.loop-far.invariant.level_of x level).walk

pub returns-then-has : goal.returns-then-has
returns-then-has c =
    found c.loop-far.invariant c.expand.ensures (omega (arith, c.loop-far.auto.far)) c.loop-far-test.true
    (omega (arith, c.requires.1, c.loop-far-test.true)) (has_of _ c.args.to c.has.ensures c.if-has.true)

pub returns-then-not-part : goal.returns-then-not-part
returns-then-not-part c =
    let graph = c.args.self.now in
    ends c.loop-far.invariant c.expand.ensures (has_not _ c.args.to c.has.ensures c.if-has.false)
    (rows_of graph.steps graph.all_blocks) (in_blocks graph.all_blocks c.requires.0) c.part.ensures
    c.if-not-part.true

pub loop-far-preserved : goal.loop-far-preserved
loop-far-preserved c =
    let graph = c.args.self.now in
    search-next c.loop-far.invariant c.expand.ensures (has_not _ c.args.to c.has.ensures c.if-has.false)
    (rows_of graph.steps graph.all_blocks) (in_blocks graph.all_blocks c.requires.0) c.part.ensures
    (omega (arith, c.loop-far.auto.far)) (omega (arith, c.requires.1, c.loop-far-test.true))
