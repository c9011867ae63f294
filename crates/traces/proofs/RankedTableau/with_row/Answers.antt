-- `RankedTableau::with_row` fills the row of subformula s where it is a next whose operand is in the node; else the row stays empty or
-- there is none.
use Rattle.std.proofs.Common.{sym, ◌∙◌, arith}
use Rattle.traces.proofs.RankLaws.{next_small}
use Rattle.traces.proofs.NextLaws.{skip_other, skip_absent, put-row}
use Rattle.traces.proofs.RankedTableau.with_row.Goals as goal
use Rattle.traces.proofs.RankedTableau.with_row.Goals.{then-not-is_next-via-then-not-is_next, then-not-is_next-via-else-not-is_next+then-not-has}

pub returns-then-not-is_next : goal.returns-then-not-is_next
returns-then-not-is_next c =
    elim c.then-not-is_next.branch [
      | then-not-is_next-via-then-not-is_next w ↦
          skip_other c.args.self.now.tableau.now.table.rows c.args.self.now.tableau.now.table.count c.args.choice c.args.node c.args.s.0
          c.args.t.now c.args.self.now.limited c.requires.in_table c.requires.before
          (sym c.is_next.ensures ∙ w.if-not-is_next.true)
      | then-not-is_next-via-else-not-is_next+then-not-has w ↦
          skip_absent c.args.self.now.tableau.now.table.rows c.args.self.now.tableau.now.table.count c.args.choice c.args.node c.args.s.0
          c.args.t.now c.args.self.now.limited c.requires.in_table c.requires.before
          (sym c.is_next.ensures ∙ w.if-not-is_next.false) (sym w.has.ensures ∙ w.if-not-has.true)
    ]

pub triple_row-requires : goal.triple_row-requires
triple_row-requires c =
    let small = next_small c.args.self.now.limited c.args.s.0 c.requires.in_table (sym c.is_next.ensures ∙ c.if-not-is_next.false) in
    omega (arith, c.from.ensures, c.args.self.now.of.next_is c.args.s.0 c.requires.in_table, small)

pub returns : goal.returns
returns c =
    put-row c.args.self.now.tableau.now.table.rows c.args.self.now.tableau.now.table.count c.args.choice c.args.node c.args.s.0
    c.args.t.now c.args.self.now.limited c.requires.in_table c.requires.before
    (sym c.is_next.ensures ∙ c.if-not-is_next.false) c.reaching-w.result c.triple_row.new.t c.from.result
    (c.from.ensures ∙ c.args.self.now.of.next_is c.args.s.0 c.requires.in_table)
    (sym c.has.ensures ∙ c.if-not-has.false) c.reaching-w.ensures c.triple_row.ensures
