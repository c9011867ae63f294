-- `Tableau::unmet` has the bits of no pick in every entry, and then, or by or, those of its picks: each entry is right at every turn.
use Rattle.tableau.proofs.UnmetLaws.{UnmetEntries}
use Rattle.tableau.proofs.formed.Tableau.unmet.Given as goal

abbrev pub invariant-loop-j : goal.invariant-loop-j
invariant-loop-j l = UnmetEntries l.self.table.rows l.self.table.count l.node l.bits
