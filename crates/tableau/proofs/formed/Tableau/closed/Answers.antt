-- `Tableau::closed` follows the moves of all but the ors until the fringe is empty. Each turn takes a subformula out of it, and what comes
-- in comes into the set, so that twice what the set lacks, with the fringe, gets less.
use Rattle.std.proofs.Common.{arith, ◌^◌}
use Rattle.tableau.proofs.RowLaws.{placed}
use Rattle.tableau.proofs.CoreLaws.{closing_start, closing_below, closing_turn, closing_less}
use Rattle.tableau.proofs.formed.Tableau.closed.Goals as goal

pub loop-c-init : goal.loop-c-init
loop-c-init c = closing_start _ _ _ c.low.ensures

pub closed_by-c-requires : goal.closed_by-c-requires
closed_by-c-requires c =
    record {
      placed = placed c.args.self.now.formed (closing_below c.loop-c.invariant c.lowest-e.ensures);
      lowest = c.lowest-e.ensures;
    }

pub loop-c-smaller : goal.loop-c-smaller
loop-c-smaller c =
    closing_less c.loop-c.invariant c.lowest-e.ensures c.closed_by-c.ensures (2 ^ 64) (omega arith)

pub loop-c-preserved : goal.loop-c-preserved
loop-c-preserved c =
    closing_turn c.loop-c.invariant c.lowest-e.ensures c.args.self.now.formed c.closed_by-c.ensures

pub returns : goal.returns
returns c = record { closing_of = c.loop-c.invariant; fringe_value = c.loop-c-test.false }
