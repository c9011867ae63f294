-- `RankedTableau::reaching` passes on until nothing changes, which later rounds then do not either. The invariant: the rounds left lead to
-- the definition's marks.
use Rattle.std.proofs.Common.{ℕ, ◌+◌, ◌-◌, ◌*◌, arith, replicate}
use Rattle.std.proofs.lemmas.List.{length-replicate}
use Rattle.std.proofs.Math.ListN.{get_or-replicate}
use Rattle.std.proofs.lemmas.Bool.Decides.{Decides-eqb}
use Rattle.std.proofs.lemmas.Slice.Eq.{slice_eq-Decides}
use Rattle.traces.proofs.MarkLaws.{reach_start, reach_more, reach_still, reach_end}
use Rattle.traces.proofs.RankedTableau.reaching.Goals as goal

pub loop-init : goal.loop-init
loop-init c =
    reach_start c.args.self.now.tableau.now.table.rows c.args.self.now.tableau.now.table.count c.args.choice c.args.s.0 (replicate 48 0)
    (8 * c.args.self.now.tableau.now.table.count - 0) (omega arith)
    (omega (arith, length-replicate {A = ℕ} 48 0))
    (λ i h. get_or-replicate 48 i 0 0 (omega (arith, c.args.self.now.tableau.now.formed.few)))

pub returns-then-eq : goal.returns-then-eq
returns-then-eq c =
    let same = slice_eq-Decides Decides-eqb c.passed.new.marks c.loop.w _ c.eq.ensures in
    reach_still c.args.self.now.tableau.now.table.rows c.args.self.now.tableau.now.table.count c.args.choice c.args.s.0
    (8 * c.args.self.now.tableau.now.table.count - c.loop.counter)
    c.loop.w c.passed.new.marks c.loop.invariant c.passed.ensures (same.0 c.if-eq.true)

pub loop-preserved : goal.loop-preserved
loop-preserved c =
    reach_more c.args.self.now.tableau.now.table.rows c.args.self.now.tableau.now.table.count c.args.choice c.args.s.0
    (8 * c.args.self.now.tableau.now.table.count - c.loop.counter)
    (8 * c.args.self.now.tableau.now.table.count - (c.loop.counter + 1)) c.loop.w c.passed.new.marks (omega arith) c.loop.invariant
    c.passed.ensures

pub returns : goal.returns
returns c =
    reach_end c.args.self.now.tableau.now.table.rows c.args.self.now.tableau.now.table.count c.args.choice c.args.s.0
    (8 * c.args.self.now.tableau.now.table.count - c.loop.counter) c.loop.w
    (omega arith) c.loop.invariant
