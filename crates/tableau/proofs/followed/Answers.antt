-- `tableau::followed` follows the moves of the fringe until it is empty. What a turn puts into the fringe the set gains, so that twice what
-- the set lacks, with the fringe, gets less.
use Rattle.std.proofs.Common.{◌^◌, subst, arith}
use Rattle.tableau.specs.Fringe.{Spread}
use Rattle.tableau.proofs.FringeLaws.{lowest_few, turn_few, turn_less, spread_turn}
use Rattle.tableau.proofs.followed.Goals as goal

pub loop-fringe-init : goal.loop-fringe-init
loop-fringe-init g c = (c.requires.1.0, λ node s. s)

pub step-grown-requires : goal.step-grown-requires
step-grown-requires g c =
    c.requires.1.1.asks _ _ (lowest_few c.loop-fringe.invariant.0 c.lowest-e.ensures)

pub loop-fringe-smaller : goal.loop-fringe-smaller
loop-fringe-smaller g c =
    let e = lowest_few c.loop-fringe.invariant.0 c.lowest-e.ensures in
    turn_less g.go _ c.lowest-e.ensures c.without.ensures (c.requires.1.1.answers _ _ _ e c.step-grown.ensures) (2 ^ 64) (omega arith)

pub loop-fringe-preserved : goal.loop-fringe-preserved
loop-fringe-preserved g c =
    let e = lowest_few c.loop-fringe.invariant.0 c.lowest-e.ensures in
    let grown = c.requires.1.1.answers _ _ _ e c.step-grown.ensures in (
      turn_few g.go _ c.lowest-e.ensures c.without.ensures grown c.loop-fringe.invariant.0 c.requires.1.1.below,
      λ node s. spread_turn (c.loop-fringe.invariant.1 node s) c.lowest-e.ensures c.without.ensures grown c.requires.1.1.below,
    )

pub returns : goal.returns
returns g c = λ node s. subst (Spread g.go c.args.count node c.loop-fringe.set) c.loop-fringe-test.false (c.loop-fringe.invariant.1 node s)
