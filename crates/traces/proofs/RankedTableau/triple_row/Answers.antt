-- `RankedTableau::triple_row` fills row f next by next. The invariant: the nexts passed are in their columns, and the other rows stay.
use Rattle.std.proofs.Common.{◌+◌, refl, sym, subst, ◌∙◌, arith}
use Rattle.traces.specs.Inner.{RowFilled}
use Rattle.traces.proofs.RankLaws.{next_small}
use Rattle.traces.proofs.NextLaws.{row-put, row-skip}
use Rattle.traces.proofs.RankedTableau.triple_row.Goals as goal
use Rattle.traces.proofs.RankedTableau.triple_row.Goals.{then-is_next, else-is_next}

pub loop-e-init : goal.loop-e-init
loop-e-init c = record { filled = λ d h. absurd (omega arith); others = λ i. ((λ h. refl), λ h. refl) }

pub bounds-t-f : goal.bounds-t-f
bounds-t-f c =
    let small = next_small c.args.self.now.limited c.loop-e.e c.loop-e-test.true (sym c.is_next.ensures ∙ c.if-is_next.true) in
    omega (arith, c.args.self.now.of.next_is c.loop-e.e c.loop-e-test.true, small)

pub loop-e-preserved : goal.loop-e-preserved
loop-e-preserved c =
    let rows = c.args.self.now.tableau.now.table.rows in
    let e = c.loop-e.e in
    let marks = c.args.marks.now in
    elim c.if-is_next.branch [
      | then-is_next w ↦
          let is = sym c.is_next.ensures ∙ w.if-is_next.true in
          subst (RowFilled rows marks (e + 1) c.args.f c.args.t.now) (sym w.t-is)
          (row-put rows e c.args.f marks c.args.t.now c.loop-e.t c.loop-e.invariant w.from.result
          (w.from.ensures ∙ c.args.self.now.of.next_is e c.loop-e-test.true) (omega arith) is c.requires
          (next_small c.args.self.now.limited e c.loop-e-test.true is))
      | else-is_next w ↦
          subst (RowFilled rows marks (e + 1) c.args.f c.args.t.now) (sym w.t-is)
          (row-skip rows e c.args.f marks c.args.t.now c.loop-e.t c.loop-e.invariant (sym c.is_next.ensures ∙ w.if-is_next.false))
    ]

pub returns : goal.returns
returns c =
    record { filled = λ d h. c.loop-e.invariant.filled d (omega arith); others = c.loop-e.invariant.others }
