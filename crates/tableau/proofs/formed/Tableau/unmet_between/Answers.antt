-- `Tableau::unmet_between` has the bits of the ors outside the widest set: after e turns, of those in the first e rows. So a choice word
-- between low and high with one of these bits picks at an or that is not met.
use Rattle.std.proofs.Common.{sym, ◌∙◌, arith}
use Rattle.tableau.proofs.UnmetLaws.{outside_or, outside_other, unmet-all}
use Rattle.tableau.proofs.formed.Tableau.unmet_between.Goals as goal
use Rattle.tableau.proofs.formed.Tableau.unmet_between.Goals.{else-is_or, then-is_or}

pub loop-e-preserved : goal.loop-e-preserved
loop-e-preserved c =
    let is = sym c.is_or.ensures in
    let outside = c.loop-e.invariant.1 in
    elim c.if-is_or.branch [
      | then-is_or w ↦ (
        omega (arith, w.n-is, c.loop-e.invariant.0),
        rw (w.bits-is, w.n-is) (outside_or outside (is ∙ w.if-is_or.true) w.has.ensures w.with-bits.result w.with-bits.ensures),
      )
      | else-is_or w ↦ (
        omega (arith, w.n-is, c.loop-e.invariant.0),
        rw (w.bits-is, w.n-is) (outside_other outside (is ∙ w.if-is_or.false)),
      )
    ]

pub returns : goal.returns
returns c =
    unmet-all c.widest-wide.ensures c.loop-e.invariant.1 (omega arith) c.loop-e-test.false
