-- `RankedTableau::reaching` passes on until nothing changes, which later rounds then do not either. The invariant: the rounds left lead to
-- the definition's marks.
use Rattle.std.proofs.Common.{◌-◌, ◌*◌}
use Rattle.traces.proofs.MarkLaws.{Reaching}
use Rattle.traces.proofs.RankedTableau.reaching.Given as goal

abbrev pub invariant-loop : goal.invariant-loop
invariant-loop l =
    Reaching l.self.tableau.now.table.rows l.self.tableau.now.table.count l.choice l.fn.s.0
    (8 * l.self.tableau.now.table.count - l.counter) l.w
