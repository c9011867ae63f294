-- `RankedTableau::triples_of` goes over the rows. The invariant: the nexts passed have their rows, and the rows after these are empty.
use Rattle.std.proofs.Common.{arith}
use Rattle.std.proofs.Math.ListN.{get_or-replicate}
use Rattle.traces.proofs.NextLaws.{all_done}
use Rattle.traces.proofs.RankedTableau.triples_of.Goals as goal

pub loop-e-init : goal.loop-e-init
loop-e-init c = record { done = λ v w nv cw i d h. absurd (omega arith); empty = λ i h k. get_or-replicate 144 i 0 0 k }

pub loop-e-preserved : goal.loop-e-preserved
loop-e-preserved c = c.with_row.ensures

pub returns : goal.returns
returns c =
    all_done c.args.self.now.tableau.now.table.rows c.args.self.now.tableau.now.table.count c.args.choice c.args.node c.loop-e.t
    c.args.self.now.limited
    (λ v w nv cw i d h. c.loop-e.invariant.done v w nv cw i d (omega arith))
