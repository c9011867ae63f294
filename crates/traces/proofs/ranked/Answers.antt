-- `traces::ranked` counts the next and the fixpoints row by row. The invariant: the ranks of the rows passed are stored.
use Rattle.std.proofs.Common.{ℕ, sym, subst, arith, replicate}
use Rattle.std.proofs.lemmas.List.{length-replicate}
use Rattle.traces.specs.Inner.{RanksOf}
use Rattle.traces.proofs.RankLaws.{one_of, one_most, ranking_small, ranking_start, ranking_more, ranking_end}
use Rattle.traces.proofs.ranked.Goals as goal

pub loop-e-init : goal.loop-e-init
loop-e-init c =
    let zeros = replicate {A = ℕ} 48 0 in
    let long = length-replicate {A = ℕ} 48 0 in
    ranking_start c.args.tableau.now.table.rows zeros zeros long long

pub loop-e-preserved : goal.loop-e-preserved
loop-e-preserved c =
    ranking_more c.args.tableau.now.table.rows c.loop-e.e c.loop-e.next c.loop-e.fix c.loop-e.nexts c.loop-e.fixes c.from-nexts.result
    c.from-fixes.result
    (omega (arith, c.args.tableau.now.formed.few)) (one_of c.is_next.ensures c.from-nexts.ensures)
    (one_of c.is_fixpoint.ensures c.from-fixes.ensures)
    c.loop-e.invariant

pub overflow_add-nexts : goal.overflow_add-nexts
overflow_add-nexts c =
    omega (arith, (ranking_small c.loop-e.invariant).0, one_most c.is_next.ensures c.from-nexts.ensures, c.args.tableau.now.formed.few)

pub overflow_add-fixes : goal.overflow_add-fixes
overflow_add-fixes c =
    omega (arith, (ranking_small c.loop-e.invariant).1, one_most c.is_fixpoint.ensures c.from-fixes.ensures, c.args.tableau.now.formed.few)

pub returns : goal.returns
returns c =
    subst
    (λ (n : ℕ). RanksOf c.args.tableau.now.table.rows c.args.tableau.now.table.count
    (record { nexts = n; next = c.loop-e.next; fix = c.loop-e.fix }))
    (sym c.from.ensures)
    (ranking_end c.args.tableau.now.table.rows c.args.tableau.now.table.count c.loop-e.e c.loop-e.next c.loop-e.fix c.loop-e.nexts
    c.loop-e.fixes (omega arith)
    c.loop-e.invariant)
