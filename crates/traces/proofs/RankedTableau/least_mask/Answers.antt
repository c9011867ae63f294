-- `RankedTableau::least_mask` goes over the rows. The invariant: the mask has the least fixpoints of the rows passed.
use Rattle.std.proofs.Common.{ℕ, ◌+◌, get_or, sym, ap, subst, ◌∙◌, bit_or, arith}
use Rattle.std.proofs.lemmas.Nat.{one_shl}
use Rattle.base.specs.Bits.{bit}
use Rattle.base.proofs.BitLaws.{set_on}
use Rattle.formula.specs.Rows.{operator_at}
use Rattle.traces.proofs.RankLaws.{fix-small}
use Rattle.traces.proofs.LeastLaws.{Masked, least-fix, mask_start, mask_set, mask_kept, mask_end}
use Rattle.traces.proofs.RankedTableau.least_mask.Goals as goal
use Rattle.traces.proofs.RankedTableau.least_mask.Goals.{then-is_least, else-is_least}

pub loop-e-init : goal.loop-e-init
loop-e-init c = mask_start c.args.self.now.tableau.now.table.rows c.args.self.now.tableau.now.table.count

pub overflow_shl-mask : goal.overflow_shl-mask
overflow_shl-mask c =
    omega (
      arith,
      c.args.self.now.of.fix_is c.loop-e.e c.loop-e-test.true,
      fix-small c.args.self.now.limited c.loop-e.e c.loop-e-test.true
          (least-fix (operator_at c.args.self.now.tableau.now.table.rows c.loop-e.e)
          (sym c.is_least.ensures ∙ c.if-is_least.true)),
    )

pub loop-e-preserved : goal.loop-e-preserved
loop-e-preserved c =
    let rows = c.args.self.now.tableau.now.table.rows in
    let e = c.loop-e.e in
    elim c.if-is_least.branch [
      | then-is_least w ↦
          let least = sym c.is_least.ensures ∙ w.if-is_least.true in
          let rank = c.args.self.now.of.fix_is e c.loop-e-test.true in
          let small = fix-small c.args.self.now.limited e c.loop-e-test.true (least-fix (operator_at rows e) least) in
          mask_set rows c.args.self.now.tableau.now.table.count e c.loop-e.mask c.loop-e-test.true c.loop-e.invariant c.if-is_least.mask
          (get_or c.args.self.now.ranks.fix e 0)
          rank least
          (λ i.
          ap (λ (m : ℕ). bit m i) w.mask-is
          ∙ ap (λ (b : ℕ). bit (bit_or c.loop-e.mask b) i) (one_shl (get_or c.args.self.now.ranks.fix e 0) 8 (omega (arith, rank, small)))
          ∙ set_on c.loop-e.mask (get_or c.args.self.now.ranks.fix e 0) i)
      | else-is_least w ↦
          subst (Masked rows c.args.self.now.tableau.now.table.count (e + 1)) (sym w.mask-is)
          (mask_kept rows c.args.self.now.tableau.now.table.count e c.loop-e.mask c.loop-e-test.true c.loop-e.invariant
          (sym c.is_least.ensures ∙ w.if-is_least.false))
    ]

pub returns : goal.returns
returns c =
    mask_end c.args.self.now.tableau.now.table.rows c.args.self.now.tableau.now.table.count c.loop-e.e c.loop-e.mask c.loop-e-test.false
    c.loop-e.invariant
